use Rattle.std.proofs.Common.{arith, bit_and, slice_index_or, subst, ◌+◌, ◌/◌, ◌≡◌, ◌≢◌, ◌≤◌, rules}
use Rattle.std.proofs.Math.Facts.{Fits-lt-pow}
use Rattle.cap_vet.proofs.Bits.{finds_taken, reaches_on, sets_word}
use Rattle.cap_vet.proofs.exclusiveness.marks.set_more.Goals as goal

pub returns-then-words-k-ne0 : goal.returns-then-words-k-ne0
returns-then-words-k-ne0 c =
    let few : c.min-high.result ≤ 64 = omega (arith, c.min-high.ensures) in
    let f = finds_taken c.loop-at.words c.loop-at.at c.min-high.result few (Fits-lt-pow (c.type_inv.words (c.loop-at.at / 64)))
    (subst (λ u. bit_and (slice_index_or c.loop-at.words (c.loop-at.at / 64) 0) u ≢ 0) c.mask-ones.ensures c.if-words-k-ne0.true) in record {
      same_length = omega (arith, c.loop-at.auto.words);
      taken = λ e. absurd (cc e);
      free = λ e. absurd (cc e);
      below = λ e. absurd (cc e);
      above = λ e. absurd (cc e);
      conflict = search rules;
    }

pub returns : goal.returns
returns c =
    let reached = c.loop-at.invariant.reached in
    let all : c.loop-at.at ≡ c.args.from + c.args.count = omega (arith, c.loop-at.invariant.before, c.loop-at-test.false) in record {
      same_length = omega (arith, c.loop-at.auto.words);
      taken = λ _ i a b. reached.taken i a (omega (arith, all, b));
      free = λ _ i a b. reached.free i a (omega (arith, all, b));
      below = λ _ i a. reached.below i a;
      above = λ _ i a. reached.above i (omega (arith, all, a));
      conflict = λ e. absurd (cc e);
    }

pub loop-at-preserved : goal.loop-at-preserved
loop-at-preserved c = search (rules, reaches_on, sets_word)
