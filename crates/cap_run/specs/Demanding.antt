-- What may be written of a message that is vetted under demands (profile).
use Rattle.std.specs.Prelude.{IsTrue, List, ℕ, ◌≡◌, ◌⊎◌}
use Rattle.cap_spec.specs.SpecNames.{IsDisjoint, IsStrict, strict_verdict, vet_text}
use Rattle.cap_spec.specs.declared.Step.{Step}
use Rattle.cap_spec.specs.declared.StrictRefusal.{StrictRefusal}
use Rattle.cap_spec.specs.declared.StrictRefusal.TheVariants.{ManySegments, Pointer, Refused as bad}
use Rattle.cap_vet.specs.VetNames.{IsDemandFault, words_under, depth_of, words_of}
use Rattle.cap_walk.specs.declared.demands.Demands.{Demands}
use Rattle.cap_walk.specs.declared.limits.Limits.{Limits}
use Rattle.cap_run.specs.Checking.{ReportsChecked}
use Rattle.cap_run.specs.Reporting.{Reports}
use Rattle.cap_run.specs.Vetting.{ReportsAccepted, ReportsNode, ReportsOverlap, ReportsTree, AllocatesMarks}
use Rattle.cap_run.specs.declared.engines.stream.Counted.{Counted}
use Rattle.cap_run.specs.declared.engines.stream.Counted.TheVariants.{Refused}

-- the message is strict, if that is demanded
abbrev pub IsStrictUnder : Demands → List (List ℕ) → ℕ → ℕ → Type 0
IsStrictUnder demands m words depth =
    IsTrue demands.strict → IsStrict m (words_under demands m words) depth

-- it is accepted, and it isn't strict, though that is demanded
abbrev pub IsNotStrict : Demands → List (List ℕ) → ℕ → ℕ → StrictRefusal → Type 0
IsNotStrict demands m words depth (bad refusal) = ⊥
IsNotStrict demands m words depth ManySegments = IsDemandFault demands m words depth ManySegments
IsNotStrict demands m words depth (Pointer what s w pointers) =
    IsDemandFault demands m words depth (Pointer what s w pointers)

-- the line of message n if it doesn't meet the demands, with the first reason
pub record ReportsFault (demands : Demands) (words depth n : ℕ) (m : List (List ℕ)) (text : List ℕ)
    (counted : Counted) : Type 0 where
  pub fault : StrictRefusal
  pub is_fault : IsDemandFault demands m words depth fault
  pub line : text ≡ vet_text n (strict_verdict fault)
  pub counts : counted ≡ Refused

-- a text of a message that meets the demands, or one of a message that doesn't
abbrev pub OrRefused : Demands → (Demands → ℕ → ℕ → Reports) → (ℕ → ℕ → Reports) → ℕ → ℕ → Reports
OrRefused demands refuses reports words depth n m text counted =
    (IsStrictUnder demands m words depth
    × reports (words_under demands m words) depth n m text counted)
    ⊎ refuses demands words depth n m text counted

-- a text of a message that meets the demands, or that line
abbrev pub OrFault : Demands → (ℕ → ℕ → Reports) → ℕ → ℕ → Reports
OrFault demands reports = OrRefused demands ReportsFault reports

-- the messages that meet the demands and need an allocation then
abbrev pub AllocatesUnder : Demands → (ℕ → ℕ → List (List ℕ) → Type 0) → ℕ → ℕ → List (List ℕ)
    → Type 0
AllocatesUnder demands allocates words depth m = IsStrictUnder demands m words depth
    × allocates (words_under demands m words) depth m

-- both under the limits of the charge and of the depth
abbrev pub OrFaultIn : Demands → (ℕ → ℕ → Reports) → Limits → Reports
OrFaultIn demands reports limits = OrFault demands reports (words_of limits) (depth_of limits)

abbrev pub AllocatesIn : Demands → (ℕ → ℕ → List (List ℕ) → Type 0) → Limits → List (List ℕ) → Type 0
AllocatesIn demands allocates limits = AllocatesUnder demands allocates (words_of limits) (depth_of limits)

-- the line of `vet`
abbrev pub ReportsVerdictUnder : Demands → ℕ → ℕ → Reports
ReportsVerdictUnder demands = OrFault demands ReportsAccepted

-- a text of an accepted message that uses no word twice, or one of a message that does
abbrev pub OrOverlap : (ℕ → ℕ → Reports) → (ℕ → ℕ → Reports) → ℕ → ℕ → Reports
OrOverlap overlaps reports words depth n m text counted =
    (IsDisjoint m × reports words depth n m text counted) ⊎ overlaps words depth n m text counted

-- the line of a message that is accepted: it uses no word twice, or with the first overlap
abbrev pub ReportsExclusiveness : ℕ → ℕ → Reports
ReportsExclusiveness = OrOverlap ReportsOverlap ReportsAccepted

-- the line of `vet --exclusive`
abbrev pub ReportsExclusiveUnder : Demands → ℕ → ℕ → Reports
ReportsExclusiveUnder demands = OrFault demands ReportsExclusiveness

-- the messages whose words are marked: those that meet the demands
abbrev pub AllocatesMarksUnder : Demands → ℕ → ℕ → List (List ℕ) → Type 0
AllocatesMarksUnder demands = AllocatesUnder demands AllocatesMarks

-- the text of `dump`
abbrev pub ReportsDumpUnder : Demands → ℕ → ℕ → Reports
ReportsDumpUnder demands = OrFault demands ReportsTree

-- the text of `get`
abbrev pub ReportsGetUnder : Demands → ℕ → ℕ → List Step → Reports
ReportsGetUnder demands words depth path = OrFault demands (λ w d. ReportsNode w d path) words depth

-- the line of `check`
abbrev pub ReportsCheckUnder : Demands → ℕ → ℕ → Reports
ReportsCheckUnder demands = OrFault demands ReportsChecked
