-- The loop has looked at the lengths of all segments, or met one that is too long.
use Rattle.cap_spec.proofs.ProofNames.{arith, length, ◌^◌, ◌≤◌, nat_tests, rules}
use Rattle.cap_frame.proofs.Held.{held_message, held_more, held_too_long}
use Rattle.cap_frame.proofs.message.WordMessage.new.Goals as goal

pub returns-then-len-gt4294967295-clause-some : goal.returns-then-len-gt4294967295-clause-some
returns-then-len-gt4294967295-clause-some c =
    let long : 2 ^ 32 ≤ length c.words-item.result.items = omega (arith, c.words-item.result.ok.0) in (
      λ e. absurd (cc),
      λ m. absurd (held_too_long (λ v. v.items) c.deref-words-items.result.now c.loop-words.words-index c.words-item.result
          c.loop-words-test.true c.words-item.is long (rw c.deref-words-items.ensures.value m)),
    )

pub loop-words-preserved : goal.loop-words-preserved
loop-words-preserved c = search (rules, held_more)

pub invariant_of-result : goal.invariant_of-result
invariant_of-result c = search (rules, nat_tests, held_message)
