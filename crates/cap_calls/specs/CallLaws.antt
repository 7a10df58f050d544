-- What the laws of calls speak of: answers that refuse nothing, and the pointer that an answer names (profile).
use Rattle.std.specs.List.{AllByRecursion}
use Rattle.std.specs.Prelude.{IsFalse, IsTrue, List, [], drop, length, map, take, ℕ, ⊤, ◌++◌, ◌<◌, ◌∷◌, ◌≡◌, ◌≤◌}
use Rattle.std.specs.Prelude.{◌⊎◌}
use Rattle.cap_spec.specs.Paths.{IsNumbered}
use Rattle.cap_spec.specs.Plain.{plain_words}
use Rattle.cap_spec.specs.declared.Step.{Step}
use Rattle.cap_calls.specs.CallFlags.{has_no_table}
use Rattle.cap_calls.specs.CallFrames.{HasFrame}
use Rattle.cap_calls.specs.CallInputs.{IsSegment}
use Rattle.cap_calls.specs.CanonicalCalls.{ReportsCopy}
use Rattle.cap_calls.specs.PointerCalls.{ReportsPointer, call_step}
use Rattle.cap_calls.specs.declared.answer.Answer.{Answer}
use Rattle.cap_calls.specs.declared.answer.Answer.TheVariants.{BufferTooSmall, CapabilityPad, CompositeOverrun}
use Rattle.cap_calls.specs.declared.answer.Answer.TheVariants.{CompositeTag, DepthLimit, EmptySegment, Good}
use Rattle.cap_calls.specs.declared.answer.Answer.TheVariants.{HasCapability, NoNode, NotCanonical, NullPad, OutOfSegment}
use Rattle.cap_calls.specs.declared.answer.Answer.TheVariants.{Overlap, PadIsFar, PadNotFar, PadOutside, Reserved}
use Rattle.cap_calls.specs.declared.answer.Answer.TheVariants.{SegmentMissing, TagKind, TagOffset, WordLimit}
use Rattle.cap_calls.specs.declared.limits.CallLimits.{CallLimits}
use Rattle.cap_calls.specs.declared.report.CallReport.{CallReport}
use Rattle.cap_calls.specs.declared.step.CallStep.{CallStep}

-- the call refuses neither the frame nor the message, as far as it looks at it
abbrev pub RefusesNothing : Answer → Type 0
RefusesNothing Good = ⊤
RefusesNothing BufferTooSmall = ⊤
RefusesNothing NotCanonical = ⊤
RefusesNothing HasCapability = ⊤
RefusesNothing Overlap = ⊤
RefusesNothing NoNode = ⊤
RefusesNothing _ = ⊥

-- the answer is about a pointer of the message, which the report names
abbrev pub NamesPointer : Answer → Type 0
NamesPointer Overlap = ⊤
NamesPointer NullPad = ⊤
NamesPointer EmptySegment = ⊤
NamesPointer CapabilityPad = ⊤
NamesPointer Reserved = ⊤
NamesPointer SegmentMissing = ⊤
NamesPointer PadOutside = ⊤
NamesPointer PadIsFar = ⊤
NamesPointer PadNotFar = ⊤
NamesPointer TagKind = ⊤
NamesPointer TagOffset = ⊤
NamesPointer OutOfSegment = ⊤
NamesPointer CompositeTag = ⊤
NamesPointer CompositeOverrun = ⊤
NamesPointer DepthLimit = ⊤
NamesPointer WordLimit = ⊤
NamesPointer _ = ⊥

-- The input is or starts with the frame of this message, or by its form is the words of its one segment.
abbrev pub HasMessage : CallLimits → List ℕ → List (List ℕ) → Type 0
HasMessage l bytes m =
    (IsFalse (has_no_table l) × ((frame segments : ℕ) × HasFrame l bytes frame segments m))
    ⊎ (IsTrue (has_no_table l) × IsSegment l bytes × (m ≡ plain_words bytes ∷ []))

-- A call for the path to pointer n in this input: what it is given, and what it returns, writes and reports.
pub record PointerCall (l : CallLimits) (bytes : List ℕ) (n : ℕ) : Type 0 where
  pub before : List CallStep
  pub returned : Answer
  pub required : ℕ
  pub after : List CallStep
  pub report : CallReport
  pub reports : ReportsPointer l bytes n before returned required after report

-- The pointer word at s:w is number n of the message, and the call found the path to it: the path is written if the
-- buffer has the capacity.
pub record FindsPlace (l : CallLimits) (bytes : List ℕ) (n : ℕ) (c : PointerCall l bytes n) (s w : ℕ) : Type 0 where
  pub m : List (List ℕ)
  pub has_message : HasMessage l bytes m
  pub path : List Step
  pub numbered : IsNumbered m path s w n
  pub count : c.required ≡ length path
  pub written : length path ≤ length c.before
      → (c.returned ≡ Good) × (c.after ≡ map call_step path ++ drop (length path) c.before)
  pub too_small : length c.before < length path → (c.returned ≡ BufferTooSmall) × (c.after ≡ c.before)

-- these numbers are bytes
abbrev pub AreBytes : List ℕ → Type 0
AreBytes bytes = AllByRecursion (λ b. b < 256) bytes

-- The call for a canonical copy wrote this copy at the start of some buffer, and reported this.
abbrev pub WritesCopy : CallLimits → List ℕ → List ℕ → CallReport → Type 0
WritesCopy l bytes copy r = (old new : List ℕ) × ReportsCopy l bytes old Good (length copy) new r
    × (copy ≡ take (length copy) new)
