-- Slices within the limit are short enough for segments.
use Rattle.cap_spec.proofs.ProofNames.{arith, length, ◌≡◌, ◌≤◌, nat_tests}
use Rattle.cap_calls.specs.Slices.{bytes_of, words_of_slices}
use Rattle.cap_calls.proofs.SliceSegments.{are_message}
use Rattle.cap_calls.proofs.slices.SliceMessage.new.Goals as goal

pub invariant_of-result : goal.invariant_of-result
invariant_of-result c =
    let slices = c.args.slices.now in
    let total : c.in-Ok.words ≡ words_of_slices (bytes_of slices) =
    omega (arith, c.in-Ok.ensures.words, c.if-words.false, c.words.ensures.within) in
    let small : words_of_slices (bytes_of slices) ≤ 268435456 = omega (arith, total, c.if-words.false, c.words.ensures.within) in
    let some : 1 ≤ length slices = grind (arith, nat_tests, c.if-is_empty.ensures) in
    record { total = total; is_message = are_message slices some (omega (arith, c.if-slices-gt512.false)) small }
