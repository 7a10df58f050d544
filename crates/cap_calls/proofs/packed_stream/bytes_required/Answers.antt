-- The head by its tag.
use Rattle.cap_spec.proofs.ProofNames.{ap, arith, length, ℕ, ◌<◌, ◌≡◌, nat_tests}
use Rattle.cap_calls.specs.PackedStreams.{head_length}
use Rattle.cap_calls.specs.UnpackingMessages.{bytes_needed}
use Rattle.cap_calls.proofs.PackedStreams.{head_is}
use Rattle.cap_calls.proofs.packed_stream.bytes_required.Goals as goal

pub returns : goal.returns
returns c =
    let bs = c.args.bytes.now in
    let some : 0 < length bs = grind (arith, nat_tests, c.is_empty.ensures, c.if-is_empty.false) in
    let none : c.args.literal ≡ 0 = omega (arith, c.if-literal-gt0.false) in
    let need : bytes_needed c.args.literal bs ≡ head_length bs = ap (λ (k : ℕ). bytes_needed k bs) none in
    omega (arith, need, head_is bs some, c.head_len.ensures.rest)
