-- The input of a call: a frame, or by its form the words of one segment (profile; standard: 64-bit Words).
use Rattle.std.specs.Prelude.{Bool, IsFalse, IsTrue, List, [], length, ℕ, ◌%◌, ◌*◌, ◌+◌, ◌/◌, ◌<◌, ◌∷◌, ◌≡◌, ◌≤◌}
use Rattle.cap_spec.specs.SpecNames.{most_depth, most_words, plain_words}
use Rattle.cap_frame.specs.declared.fault.FrontFault.TheVariants.{TooLarge, TooManySegments, Truncated}
use Rattle.cap_calls.specs.CallFindings.{ReportsWhole, framed_found, none_found}
use Rattle.cap_calls.specs.CallFlags.{HasWordFlags, has_no_table}
use Rattle.cap_calls.specs.CallFrames.{AreLimits}
use Rattle.cap_calls.specs.declared.found.Found.{Found}
use Rattle.cap_calls.specs.declared.front.NoFrame.{NoFrame}
use Rattle.cap_calls.specs.declared.front.NoFrame.TheVariants.{BadLimits, Fault, NoMessage}
use Rattle.cap_calls.specs.declared.limits.CallLimits.{CallLimits}

-- for words: no limit is above its maximum, no flag is unknown, and the reserved fields are 0
pub record AreWordLimits (l : CallLimits) : Type 0 where
  pub small : l.message_words ≤ most_words
  pub few : l.charge ≤ most_words
  pub shallow : l.depth ≤ most_depth
  pub flags : HasWordFlags l

-- the same, for a frame or for words
pub record AreInputLimits (l : CallLimits) : Type 0 where
  pub frame : IsFalse (has_no_table l) → AreLimits l
  pub words : IsTrue (has_no_table l) → AreWordLimits l

-- why the bytes are no segment within the limits: a part of a word counts as a word
abbrev pub IsNoSegment : CallLimits → List ℕ → NoFrame → Type 0
IsNoSegment l bytes BadLimits = ¬ AreWordLimits l
IsNoSegment l bytes NoMessage = AreWordLimits l × (bytes ≡ [])
IsNoSegment l bytes (Fault (TooManySegments count)) = ⊥
IsNoSegment l bytes (Fault (TooLarge words)) = AreWordLimits l × (8 * l.message_words < length bytes)
    × (words ≡ (length bytes + 7) / 8)
IsNoSegment l bytes (Fault (Truncated needed)) = AreWordLimits l × (length bytes ≤ 8 * l.message_words)
    × (0 < length bytes % 8) × (needed ≡ 8 * (length bytes / 8 + 1))

-- The bytes are the words of one segment, within the limits.
pub record IsSegment (l : CallLimits) (bytes : List ℕ) : Type 0 where
  pub are_limits : AreWordLimits l
  pub some : 0 < length bytes
  pub within : length bytes ≤ 8 * l.message_words
  pub whole : length bytes % 8 ≡ 0

-- What a call reports of its input. It is a frame, or by its form a segment: its length is then the input's.
pub data ReportsInput (whole : Bool) (kept : Type 0) (finds : List (List ℕ) → ℕ → ℕ → Found → Type 0) (l : CallLimits)
    (bytes : List ℕ) (f : Found) : Type 0 where
  of_frame : IsFalse (has_no_table l) → ReportsWhole whole kept finds l bytes f → ReportsInput whole kept finds l bytes f
  of_no_words : IsTrue (has_no_table l) → (cause : NoFrame) → IsNoSegment l bytes cause → f ≡ none_found cause → kept
      → ReportsInput whole kept finds l bytes f
  of_words : IsTrue (has_no_table l) → (g : Found) → IsSegment l bytes → finds (plain_words bytes ∷ []) l.charge l.depth g
      → f ≡ framed_found l (length bytes) (plain_words bytes ∷ []) g
      → ReportsInput whole kept finds l bytes f
