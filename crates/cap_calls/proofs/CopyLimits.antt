-- The limits for the words of a canonical copy.
use Rattle.std.proofs.Math.Nat.{le-max_right, max-le}
use Rattle.cap_spec.proofs.ProofNames.{Bool, arith, false, max, min, most_words, refl, sym, true, ◌%◌, ◌*◌, ◌+◌, ◌/◌}
use Rattle.cap_spec.proofs.ProofNames.{◌∙◌, ◌≡◌, ◌≤◌, false≢true, ne_eqb}
use Rattle.cap_calls.specs.CallFlags.{AllowsMore, allows_amplified, allows_nonstrict, allows_trailing, copy_limits}
use Rattle.cap_calls.specs.CallFlags.{has_no_table}
use Rattle.cap_calls.specs.CallFrames.{AreLimits}
use Rattle.cap_calls.specs.CallInputs.{AreInputLimits, AreWordLimits}
use Rattle.cap_calls.specs.declared.limits.CallLimits.{CallLimits}
use Rattle.cap_calls.proofs.Words.{one_input}

-- what their flags and their form come to
copy_form : (l : CallLimits) → l.form ≤ 2 → (copy_limits l).form ≡ 2
copy_form l h =
    let low : 2 ≤ max l.form 2 = le-max_right l.form 2 in
    let two : 2 ≤ 2 = omega arith in
    let high : max l.form 2 ≤ 2 = max-le h two in
    omega (arith, low, high)

pub copy_no_table : (l : CallLimits) → l.form ≤ 2 → has_no_table (copy_limits l) ≡ true
copy_no_table l h = rw (copy_form l h) refl

copy_not_trailing : (l : CallLimits) → allows_trailing (copy_limits l) ≡ false
copy_not_trailing l =
    let low : 2 ≤ max l.form 2 = le-max_right l.form 2 in
    ne_eqb (max l.form 2) 1 (λ e. omega (arith, e, low))

pub copy_amplified : (l : CallLimits) → allows_amplified (copy_limits l) ≡ true
copy_amplified l =
    let e : (l.flags / 4 * 4 + 2 + l.flags % 2) / 2 % 2 ≡ 1 = omega arith in rw e refl

pub copy_nonstrict : (l : CallLimits) → allows_nonstrict (copy_limits l) ≡ allows_nonstrict l
copy_nonstrict l =
    let e : (l.flags / 4 * 4 + 2 + l.flags % 2) % 2 ≡ l.flags % 2 = omega arith in rw e refl

-- the words that they allow
pub copy_words : (l : CallLimits) → min l.charge 268435455 + 1 ≤ (copy_limits l).message_words
copy_words l = le-max_right l.message_words (min l.charge 268435455 + 1)

small_words : (l : CallLimits) → l.message_words ≤ most_words → (copy_limits l).message_words ≤ most_words
small_words l h = max-le h (omega arith)

more_words : (l k : CallLimits) → l.message_words ≤ k.message_words → l.charge ≤ k.charge
    → (copy_limits l).message_words ≤ (copy_limits k).message_words
more_words l k h c = omega (arith, h, c)

-- They are limits of words, if the limits are those of a frame or of words.
pub copy_of_frame : (l : CallLimits) → AreLimits l → AreWordLimits (copy_limits l)
copy_of_frame l h =
    record {
      small = small_words l h.small;
      few = h.few;
      shallow = h.shallow;
      flags = record {
        known = (let k = h.flags.known in omega (arith, k));
        form = copy_form l (omega (arith, h.flags.form));
        reserved = h.flags.reserved;
      };
    }

pub copy_of_words : (l : CallLimits) → AreWordLimits l → AreWordLimits (copy_limits l)
copy_of_words l h =
    record {
      small = small_words l h.small;
      few = h.few;
      shallow = h.shallow;
      flags = record {
        known = (let k = h.flags.known in omega (arith, k));
        form = copy_form l (omega (arith, h.flags.form));
        reserved = h.flags.reserved;
      };
    }

-- The form of good limits is known.
pub known_form : (l : CallLimits) → AreInputLimits l → l.form ≤ 2
known_form l h = by_table (has_no_table l) refl
  where
    by_table : (b : Bool) → has_no_table l ≡ b → l.form ≤ 2
    by_table true e = let k = (h.words e).flags.form in omega (arith, k)
    by_table false e = let k = (h.frame e).flags.form in omega (arith, k)

pub copy_good : (l : CallLimits) → AreInputLimits l → AreInputLimits (copy_limits l)
copy_good l h =
    record {
      frame = λ off. one_input (copy_limits l) off (copy_no_table l (known_form l h));
      words = λ on. by_table (has_no_table l) refl;
    }
  where
    by_table : (b : Bool) → has_no_table l ≡ b → AreWordLimits (copy_limits l)
    by_table true e = copy_of_words l (h.words e)
    by_table false e = copy_of_frame l (h.frame e)

-- Of higher limits they are higher.
pub copy_more : (l k : CallLimits) → AreInputLimits k → AllowsMore l k → AllowsMore (copy_limits l) (copy_limits k)
copy_more l k good more =
    record {
      size = more_words l k more.size more.charge;
      charge = more.charge;
      depth = more.depth;
      trailing = λ t. absurd (false≢true (sym (copy_not_trailing l) ∙ t));
      nonstrict = λ t. copy_nonstrict k ∙ more.nonstrict (sym (copy_nonstrict l) ∙ t);
      amplified = λ t. copy_amplified k;
      table = copy_no_table l more.form ∙ sym (copy_no_table k (known_form k good));
      form = omega (arith, copy_form l more.form);
    }
