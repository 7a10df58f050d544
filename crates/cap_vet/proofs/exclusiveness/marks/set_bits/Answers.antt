use Rattle.std.proofs.Common.{arith, bit_and, refl, slice_index_or, subst, ◌%◌, ◌+◌, ◌-◌, ◌/◌, ◌<◌, ◌≡◌, ◌≤◌, rules}
use Rattle.std.proofs.Math.Facts.{Fits-lt-pow}
use Rattle.std.proofs.lemmas.List.{length-set}
use Rattle.cap_vet.proofs.Bits.{finds_taken, sets_word}
use Rattle.cap_vet.proofs.exclusiveness.marks.set_bits.Goals as goal

pub returns-then-words-k-ne0 : goal.returns-then-words-k-ne0
returns-then-words-k-ne0 c =
    let words = c.args.words.now in
    let from = c.args.from in
    let few : from % 64 + c.args.count ≤ 64 = omega (arith, c.if-high-gt64.false) in
    let f = finds_taken words from (from % 64 + c.args.count) few (Fits-lt-pow (c.type_inv.words (from / 64)))
    (search rules) in record {
      same_length = refl;
      taken = λ e. absurd (cc e);
      free = λ e. absurd (cc e);
      below = λ e. absurd (cc e);
      above = λ e. absurd (cc e);
      conflict = λ _. (f.0, f.1, omega (arith, f.2), f.3);
    }

pub returns : goal.returns
returns c =
    let words = c.args.words.now in
    let from = c.args.from in
    let some : from % 64 < from % 64 + c.args.count = omega (arith, c.if-low-high.false) in
    let few : from % 64 + c.args.count ≤ 64 = omega (arith, c.if-high-gt64.false) in
    let past : from + (from % 64 + c.args.count - from % 64) ≡ from + c.args.count = omega arith in
    let s = sets_word words from (from % 64 + c.args.count) (omega (arith, c.requires.inside, some)) some few
    (subst (λ u. bit_and (slice_index_or words (from / 64) 0) u ≡ 0) c.mask-ones.ensures c.if-words-k-ne0.false) in
    rw c.mask-ones.ensures record {
      same_length = length-set _ _ _;
      taken = λ _ i a b. s.set i a (omega (arith, past, b));
      free = λ _ i a b. s.free i a (omega (arith, past, b));
      below = λ _ i a. s.below i a;
      above = λ _ i a. s.above i (omega (arith, past, a));
      conflict = λ e. absurd (cc e);
    }
