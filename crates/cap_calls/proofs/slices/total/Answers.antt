-- One slice more is whole and counted.
use Rattle.cap_spec.proofs.ProofNames.{List, [], ap, arith, get_or, length, ℕ, ◌%◌, ◌+◌, ◌/◌, ◌<◌, ◌≡◌, capped}
use Rattle.cap_calls.specs.Slices.{bytes_of}
use Rattle.cap_calls.proofs.SliceSegments.{part_is, parts_count, sum_more}
use Rattle.cap_calls.proofs.slices.total.Goals as goal

pub slices-preserved : goal.slices-preserved
slices-preserved c =
    let slices = c.args.slices.now in
    let parts = bytes_of slices in
    let s = c.slices.s in
    let exists : s < length slices = omega (arith, c.slices-test.true) in
    let long = ap (λ (bs : List ℕ). length bs) (part_is slices s exists) in
    let whole : length (get_or parts s []) % 8 ≡ 0 = omega (arith, long, c.if-slice-ne0.false) in
    let more : c.saturating_add-words.result ≡ capped (c.slices.words + length (get_or parts s []) / 8) =
    omega (arith, long, c.saturating_add-words.ensures) in
    sum_more parts s c.slices.words c.saturating_add-words.result (omega (arith, exists, parts_count slices)) whole more
    c.slices.invariant
