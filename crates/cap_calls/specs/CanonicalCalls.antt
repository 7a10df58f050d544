-- What the call for a canonical copy returns and writes, from the bytes and the buffer alone
-- (standard: Canonicalization; the order is the profile's).
use Rattle.std.specs.Prelude.{Err, List, Ok, Result, not, ℕ, ◌≡◌}
use Rattle.cap_spec.specs.SpecNames.{HasCopy, IsFirstCap, plain_text}
use Rattle.cap_walk.specs.declared.demands.Demands.{Demands}
use Rattle.cap_walk.specs.declared.report.Report.{Report}
use Rattle.cap_canon.specs.declared.fault.BufferFault.{BufferFault}
use Rattle.cap_calls.specs.CallFindings.{Judges, JudgesAny, Returns, ReportsCall, accepted_found}
use Rattle.cap_calls.specs.CallFlags.{allows_trailing, demands_of}
use Rattle.cap_calls.specs.CallInputs.{ReportsInput}
use Rattle.cap_calls.specs.CallReports.{accepted_report}
use Rattle.cap_calls.specs.PackCalls.{ReportsText}
use Rattle.cap_calls.specs.declared.answer.Answer.{Answer}
use Rattle.cap_calls.specs.declared.found.Found.{Found}
use Rattle.cap_calls.specs.declared.limits.CallLimits.{CallLimits}
use Rattle.cap_calls.specs.declared.report.CallReport.{CallReport}
use Rattle.cap_canon.specs.declared.fault.BufferFault.TheVariants as fault
use Rattle.cap_calls.specs.declared.answer.Answer.TheVariants as answer

-- Of a message that is accepted, for a buffer that held `old`, and then holds `new`.
pub data FindsCopy (old new : List ℕ) (m : List (List ℕ)) (report : Report) (f : Found) : Type 0 where
  -- a capability is reached, the first of which the report names
  has_capability : IsFirstCap m f.report.segment f.report.word → f ≡ accepted_found answer.HasCapability 0 report
      → new ≡ old
      → FindsCopy old new m report f
  -- there is a copy, which is written if the buffer has the capacity
  copied : (words : List ℕ) → HasCopy m words → ReportsText (plain_text words) old f.answer f.count new
      → f.report ≡ accepted_report report
      → FindsCopy old new m report f

abbrev pub Copies : List ℕ → List ℕ → Demands → List (List ℕ) → ℕ → ℕ → Found → Type 0
Copies old new demands = Judges demands (new ≡ old) (FindsCopy old new)

-- Of the message that the input is or starts with: n bytes are the length of its copy.
abbrev pub ReportsCopy : CallLimits → List ℕ → List ℕ → Answer → ℕ → List ℕ → CallReport → Type 0
ReportsCopy l bytes old a n new r =
    (f : Found) × ReportsInput (not (allows_trailing l)) (new ≡ old) (Copies old new (demands_of l)) l bytes f
    × Returns f a r × (n ≡ f.count)

-- The same with both flags.
abbrev pub ReportsAnyCopy : CallLimits → List ℕ → List ℕ → Answer → ℕ → List ℕ → CallReport → Type 0
ReportsAnyCopy l bytes old a n new r =
    (f : Found) × ReportsCall (new ≡ old) (JudgesAny (new ≡ old) (FindsCopy old new)) l bytes f × Returns f a r
    × (n ≡ f.count)

-- what is found of a message that is accepted, by the result of its copy
abbrev pub size_found : Result ℕ BufferFault → Report → Found
size_found (Ok count) report = accepted_found answer.Good count report
size_found (Err (fault.BufferTooSmall needed)) report = accepted_found answer.BufferTooSmall needed report
size_found (Err (fault.HasCapability segment word)) report = accepted_found answer.HasCapability 0 report
