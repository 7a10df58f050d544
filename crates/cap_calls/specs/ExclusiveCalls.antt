-- What the call that vets exclusively returns and reports, from the bytes and the capacity alone
-- (profile).
use Rattle.std.specs.Prelude.{List, drop, length, not, ℕ, ⊤, ◌<◌, ◌≡◌, ◌≤◌, ◌⊎◌}
use Rattle.cap_spec.specs.Occupying.{IsDisjoint, IsFirstOverlap}
use Rattle.cap_spec.specs.declared.StrictRefusal.TheVariants.{Refused}
use Rattle.cap_vet.specs.VetNames.{IsExclusiveFault, IsAccepted, marks_of}
use Rattle.cap_walk.specs.declared.demands.Demands.{Demands}
use Rattle.cap_vet.specs.declared.exclusiveness.exclusive_buffer.ExclusiveFault.{ExclusiveFault}
use Rattle.cap_walk.specs.declared.report.Report.{Report}
use Rattle.cap_calls.specs.CallFindings.{Judges, Returns, accepted_found, refused_found}
use Rattle.cap_calls.specs.CallFlags.{allows_trailing, demands_of}
use Rattle.cap_calls.specs.CallInputs.{ReportsInput}
use Rattle.cap_calls.specs.CallReports.{place_report}
use Rattle.cap_calls.specs.declared.answer.Answer.{Answer}
use Rattle.cap_calls.specs.declared.found.Found.{Found}
use Rattle.cap_calls.specs.declared.limits.CallLimits.{CallLimits}
use Rattle.cap_calls.specs.declared.report.CallReport.{CallReport}
use Rattle.cap_vet.specs.declared.exclusiveness.exclusive_buffer.ExclusiveFault.TheVariants as fault
use Rattle.cap_calls.specs.declared.answer.Answer.TheVariants as answer

-- of an accepted message whose marks take n numbers, and that uses a word twice: the pointer, and how
-- many were checked
abbrev pub overlap_found : ℕ → ℕ → ℕ → ℕ → Found
overlap_found n s w pointers = record { answer = answer.Overlap; count = n; report = place_report s w pointers }

-- Of an accepted message, for a buffer of `size` numbers.
pub data FindsMarks (size : ℕ) (m : List (List ℕ)) (report : Report) (f : Found) : Type 0 where
  -- the buffer is too small
  too_small : size < marks_of m → f ≡ accepted_found answer.BufferTooSmall (marks_of m) report
      → FindsMarks size m report f
  -- a word is used twice
  overlap : (s w pointers : ℕ) → marks_of m ≤ size → IsFirstOverlap m s w pointers
      → f ≡ overlap_found (marks_of m) s w pointers
      → FindsMarks size m report f
  -- no word is used twice
  exclusive : marks_of m ≤ size → IsDisjoint m → f ≡ accepted_found answer.Good (marks_of m) report
      → FindsMarks size m report f

-- of a message
abbrev pub Marks : ℕ → Demands → List (List ℕ) → ℕ → ℕ → Found → Type 0
Marks size demands = Judges demands ⊤ (FindsMarks size)

-- the marks are in the numbers that are required, and are there only with these answers
pub record KeepsMarks (old new : List ℕ) (f : Found) : Type 0 where
  pub rest : drop f.count new ≡ drop f.count old
  pub kept : (f.answer ≡ answer.Good) ⊎ ((f.answer ≡ answer.Overlap) ⊎ (new ≡ old))

-- of a message, for a buffer that held `old`, and then holds `new`
abbrev pub MarksIn : List ℕ → List ℕ → Demands → List (List ℕ) → ℕ → ℕ → Found → Type 0
MarksIn old new demands m words depth f = Marks (length old) demands m words depth f × KeepsMarks old new f

-- Of the message that the input is or starts with: n numbers are required for its marks.
abbrev pub ReportsExclusive : CallLimits → List ℕ → ℕ → Answer → ℕ → CallReport → Type 0
ReportsExclusive l bytes size a n r =
    (f : Found) × ReportsInput (not (allows_trailing l)) ⊤ (Marks size (demands_of l)) l bytes f × Returns f a r
    × (n ≡ f.count)

-- what is found of a message that isn't exclusive, whose marks take n numbers
abbrev pub fault_found : ℕ → ExclusiveFault → Found
fault_found n (fault.Refused refusal) = refused_found (Refused refusal)
fault_found n (fault.BufferTooSmall needed report) = accepted_found answer.BufferTooSmall n report
fault_found n (fault.Overlap s w pointers) = overlap_found n s w pointers

-- The message isn't exclusive, or it is accepted and exclusive. So a call finds with both flags.
abbrev pub MarksAny : ℕ → List (List ℕ) → ℕ → ℕ → Found → Type 0
MarksAny size m words depth f =
    ((fault : ExclusiveFault) × IsExclusiveFault m words depth size fault × (f ≡ fault_found (marks_of m) fault))
    ⊎ ((report : Report) × IsAccepted m words depth report × IsDisjoint m × (marks_of m ≤ size)
    × (f ≡ accepted_found answer.Good (marks_of m) report))
