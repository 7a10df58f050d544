-- One group more is counted, and no word is left.
use Rattle.cap_spec.proofs.ProofNames.{List, ap, arith, drop, length, length-append, length-drop, take, ℕ, ◌+◌, ◌-◌, ◌∙◌}
use Rattle.cap_spec.proofs.ProofNames.{◌≡◌, take_rest, pack_text, plain_words}
use Rattle.cap_pack.specs.GroupTexts.{front_text}
use Rattle.cap_pack.proofs.GroupTexts.{pack_step}
use Rattle.cap_pack.proofs.PuttingEach.{no_word}
use Rattle.cap_pack.proofs.buffers.packed_len.Goals as goal

pub counting-preserved : goal.counting-preserved
counting-preserved c =
    let bytes = c.args.bytes.now in
    let at = c.counting.at in
    let far = c.counting.invariant in
    let group = c.front_group-taken.ensures in
    let taken : ℕ = c.front_group-taken.result.0 in
    let left : List ℕ = take (length bytes - at) (drop at bytes) in
    let step = pack_step bytes left at taken (take_rest bytes at) group.size group.within.0 group.within.2 in
    let long : length (pack_text (plain_words (drop at bytes)))
    ≡ length (front_text (plain_words (take taken left))) + length (pack_text (plain_words (drop (at + taken) bytes))) =
    ap length step ∙ length-append (front_text (plain_words (take taken left))) (pack_text (plain_words (drop (at + taken) bytes))) in
    record {
      inside = omega (arith, far.inside, group.within.2, ap length (take_rest bytes at), length-drop at bytes);
      counted = omega (arith, far.counted, long, group.encoded);
      few = omega (arith, far.few, group.few);
    }

pub returns-clause-text : goal.returns-clause-text
returns-clause-text c =
    let far = c.counting.invariant in
    let none = no_word c.args.bytes.now c.counting.at (omega (arith, c.counting-test.false)) in
    let no_text : length (pack_text (plain_words (drop c.counting.at c.args.bytes.now))) ≡ 0 = ap (λ ws. length (pack_text ws)) none in
    omega (arith, far.counted, no_text)
