-- What may be written of an accepted message about the first difference from its canonical copy (profile).
use Rattle.std.proofs.Common.{inl, inr}
use Rattle.std.specs.Prelude.{Bool, List, None, Option, Some, [], false, true, ℕ, ◌++◌, ◌≡◌, ◌≢◌, ◌⊎◌}
use Rattle.cap_spec.specs.Copies.{IsCanonical}
use Rattle.cap_spec.specs.declared.Step.{Step}
use Rattle.cap_difference.specs.Differences.{FirstDifference}
use Rattle.cap_difference.specs.declared.difference.Difference.{Difference}
use Rattle.cap_difference.specs.declared.reason.DifferenceReason.{DifferenceReason}
use Rattle.cap_difference.specs.declared.reason.DifferenceReason.TheVariants.{Trailing}
use Rattle.cap_explain.specs.Explaining.{difference_explanation}
use Rattle.cap_explain.specs.Sentences.{difference_sentence}
use Rattle.cap_explain.specs.declared.numbers.MessageStart.{MessageStart}
use Rattle.cap_text.specs.DifferenceLines.{canonical_members, difference_text}
use Rattle.cap_run.specs.declared.engines.stream.Counted.{Counted}
use Rattle.cap_run.specs.declared.engines.stream.Counted.TheVariants.{Accepted, NotCanonical}

-- the first difference of a message from its canonical copy, or that it is its own copy
abbrev pub IsDifference : List (List ℕ) → Option Difference → Type 0
IsDifference m None = IsCanonical m
IsDifference m (Some d) = FirstDifference m d

-- what is counted of an accepted message by that
abbrev pub counted_by : Option Difference → Counted
counted_by None = Accepted
counted_by (Some d) = NotCanonical

-- the path to the pointer that differs, if one does
abbrev pub difference_path : (m : List (List ℕ)) (d : Difference) → FirstDifference m d → Option (List Step)
difference_path m d (inl segments) = None
difference_path m d (inr (inl at)) = Some at.first.path
difference_path m d (inr (inr trailing)) = None

-- the number of that pointer, and 0 if none differs
abbrev pub number_by : DifferenceReason → ℕ → ℕ
number_by Trailing n = 0
number_by _ n = n

-- the lines that explain the first difference of a message that begins there, if it has one
abbrev pub explained_lines : (m : List (List ℕ)) (start : MessageStart) (found : Option Difference) → IsDifference m found → List ℕ
explained_lines m start None h = []
explained_lines m start (Some d) h = difference_explanation (difference_path m d h) m (Some start) d

-- the line of message n on whether it is canonical, and those lines
abbrev pub difference_lines : (m : List (List ℕ)) (n : ℕ) (start : MessageStart) (found : Option Difference) → IsDifference m found → List ℕ
difference_lines m n start found h = difference_text n found ++ explained_lines m start found h

-- the same as members of an object
abbrev pub difference_members : (m : List (List ℕ)) (found : Option Difference) → IsDifference m found → List ℕ
difference_members m None h = canonical_members None None []
difference_members m (Some d) h = canonical_members (Some d) (difference_path m d h) (difference_sentence d.reason)

-- One of these texts of message n, which is accepted and begins there, and then those lines.
pub record HasDifferenceAfter (start : MessageStart) (n : ℕ) (m : List (List ℕ)) (texts : List ℕ → Counted → Type 0)
    (text : List ℕ) (counted : Counted) : Type 0 where
  pub first : List ℕ
  pub is_first : texts first Accepted
  pub found : Option Difference
  pub is_found : IsDifference m found
  pub lines : text ≡ first ++ difference_lines m n start found is_found
  pub counts : counted ≡ counted_by found

-- one of these texts of message n, followed by those lines if that is asked and the message is accepted
abbrev pub OrDifference : Bool → MessageStart → ℕ → List (List ℕ) → (List ℕ → Counted → Type 0) → List ℕ → Counted → Type 0
OrDifference false start n m texts text counted = texts text counted
OrDifference true start n m texts text counted =
    (texts text counted × (counted ≢ Accepted)) ⊎ HasDifferenceAfter start n m texts text counted
