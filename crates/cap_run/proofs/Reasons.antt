-- A true reason of a refusal, as the sentence of the last line.
use Rattle.std.proofs.Common.{List, None, arith, codes, length, refl, rules, subst, sym, true, ℕ, ◌++◌, ◌≡◌, ◌≤◌}
use Rattle.cap_spec.specs.Occupying.{IsFirstOverlap}
use Rattle.cap_explain.specs.Explaining.{overlap_explanation}
use Rattle.cap_explain.proofs.Reasons.{true_lines, true_overlap}
use Rattle.cap_explain.specs.Meanings.{HasTrueReason, IsTrue}
use Rattle.cap_explain.specs.Meanings.{no_root, pad_is_far, pad_names_missing, pad_not_far, pad_outside, pointer_names_missing, reserved_pad, reserved_pointer}
use Rattle.cap_explain.specs.Meanings.{begins_before, composite_overrun, composite_tag, deep_structs, deep_target, runs_past, tag_kind, tag_offset}
use Rattle.cap_explain.specs.Meanings.{capability_pad, empty_segment, many_segments, null_pad, overlaps, past_charge}
use Rattle.cap_run.specs.LastLines.{GivesReason, is_spaced}

-- a sentence has no two blanks in a row, and is short
record IsPlain (text : List ℕ) : Type 0 where
  spaced : is_spaced 32 (codes "reason " ++ text) ≡ true
  short : length text ≤ 120

-- each that can be true is so
plain : (m : List (List ℕ)) (words depth s w : ℕ) (text : List ℕ) → IsTrue m words depth s w text → IsPlain text
plain m words depth s w text (no_root e a) = subst IsPlain (sym e) (record { spaced = refl; short = omega arith })
plain m words depth s w text (reserved_pointer e p a b) = subst IsPlain (sym e) (record { spaced = refl; short = omega arith })
plain m words depth s w text (reserved_pad e p q a b c d) = subst IsPlain (sym e) (record { spaced = refl; short = omega arith })
plain m words depth s w text (pointer_names_missing e p a b c) = subst IsPlain (sym e) (record { spaced = refl; short = omega arith })
plain m words depth s w text (pad_names_missing e p f a b c d x) = subst IsPlain (sym e) (record { spaced = refl; short = omega arith })
plain m words depth s w text (pad_outside e p a b c) = subst IsPlain (sym e) (record { spaced = refl; short = omega arith })
plain m words depth s w text (pad_is_far e p q a b c d) = subst IsPlain (sym e) (record { spaced = refl; short = omega arith })
plain m words depth s w text (pad_not_far e p f a b c d) = subst IsPlain (sym e) (record { spaced = refl; short = omega arith })
plain m words depth s w text (tag_kind e p q a b c d) = subst IsPlain (sym e) (record { spaced = refl; short = omega arith })
plain m words depth s w text (tag_offset e p q a b c d) = subst IsPlain (sym e) (record { spaced = refl; short = omega arith })
plain m words depth s w text (begins_before e k t b q a c d) = subst IsPlain (sym e) (record { spaced = refl; short = omega arith })
plain m words depth s w text (runs_past e k t b q a c d) = subst IsPlain (sym e) (record { spaced = refl; short = omega arith })
plain m words depth s w text (composite_tag e k t b q tag a c d x) = subst IsPlain (sym e) (record { spaced = refl; short = omega arith })
plain m words depth s w text (composite_overrun e k t b q tag a c d x) = subst IsPlain (sym e) (record { spaced = refl; short = omega arith })
plain m words depth s w text (deep_target e path level k t b q a c d) = subst IsPlain (sym e) (record { spaced = refl; short = omega arith })
plain m words depth s w text (deep_structs e path level k t b q tag a c d x y) = subst IsPlain (sym e) (record { spaced = refl; short = omega arith })
plain m words depth s w text (past_charge e r f cost a b c d) = subst IsPlain (sym e) (record { spaced = refl; short = omega arith })
plain m words depth s w text (many_segments e a) = subst IsPlain (sym e) (record { spaced = refl; short = omega arith })
plain m words depth s w text (null_pad e p a b c) = subst IsPlain (sym e) (record { spaced = refl; short = omega arith })
plain m words depth s w text (empty_segment e k t b q a c) = subst IsPlain (sym e) (record { spaced = refl; short = omega arith })
plain m words depth s w text (capability_pad e p q a b c d) = subst IsPlain (sym e) (record { spaced = refl; short = omega arith })
plain m words depth s w text (overlaps e path number a b) = subst IsPlain (sym e) (record { spaced = refl; short = omega arith })

-- the last line gives it
pub true_gives : (m : List (List ℕ)) (words depth s w : ℕ) (lines : List ℕ) (h : HasTrueReason m words depth s w lines)
    → GivesReason lines h.sentence
true_gives m words depth s w lines h = record {
  before = h.before;
  last = h.last;
  spaced = (plain m words depth s w h.sentence h.holds).spaced;
}

pub true_short : (m : List (List ℕ)) (words depth s w : ℕ) (lines : List ℕ) (h : HasTrueReason m words depth s w lines)
    → length h.sentence ≤ 120
true_short m words depth s w lines h = (plain m words depth s w h.sentence h.holds).short

-- the reason of an overlap
pub overlap_reason : (m : List (List ℕ)) (words depth s w pointers : ℕ) → IsFirstOverlap m s w pointers
    → HasTrueReason m words depth s w (overlap_explanation None m None s w)
overlap_reason m words depth s w pointers h = search (rules, true_lines, true_overlap m words depth s w pointers h)
