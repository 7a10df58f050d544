-- What an exclusive message is, and why a message isn't one (profile).
use Rattle.std.specs.Prelude.{List, ℕ, ⊤, ◌<◌, ◌≡◌, ◌≤◌}
use Rattle.cap_spec.specs.SpecNames.{IsRefused, IsFirstOverlap}
use Rattle.cap_walk.specs.Demands.{IsDemandFault, IsMet}
use Rattle.cap_walk.specs.Reports.{IsAccepted}
use Rattle.cap_vet.specs.Taken.{marks_of}
use Rattle.cap_walk.specs.declared.demands.Demands.{Demands}
use Rattle.cap_vet.specs.declared.exclusiveness.exclusive.Exclusive.{Exclusive}
use Rattle.cap_vet.specs.declared.exclusiveness.exclusive_buffer.ExclusiveFault.{ExclusiveFault}
use Rattle.cap_vet.specs.declared.exclusiveness.exclusive_vetting.ExclusiveRefusal.{ExclusiveRefusal}
use Rattle.cap_vet.specs.declared.nodes.vetted.Vetted.{Vetted}
use Rattle.cap_walk.specs.declared.report.Report.{Report}
use Rattle.cap_frame.specs.declared.segments.Segments as segments
use Rattle.cap_vet.specs.declared.exclusiveness.exclusive_buffer.ExclusiveFault.TheVariants as fault
use Rattle.cap_vet.specs.declared.exclusiveness.exclusive_vetting.ExclusiveRefusal.TheVariants as refusal

-- the accepted message
abbrev pub vetted_of : {M : Type 0} {g : segments.Ghosts M} → Exclusive M g → Vetted M g
vetted_of e = e.vetted

-- why a message isn't exclusive under demands; without memory for marks it has no other fault
abbrev pub IsExclusiveRefusal : Demands → List (List ℕ) → ℕ → ℕ → ExclusiveRefusal → Type 0
IsExclusiveRefusal demands m words depth (refusal.Refused r) = IsDemandFault demands m words depth r
IsExclusiveRefusal demands m words depth (refusal.Overlap s w n) =
    ((report : Report) × IsMet demands m words depth report) × IsFirstOverlap m s w n
IsExclusiveRefusal demands m words depth refusal.Memory = (report : Report) × IsMet demands m words depth report

-- why a message isn't found exclusive with a buffer of `capacity` numbers; each message that isn't has
-- one of these faults
abbrev pub IsExclusiveFault : List (List ℕ) → ℕ → ℕ → ℕ → ExclusiveFault → Type 0
IsExclusiveFault m words depth capacity (fault.Refused r) = IsRefused m words depth r
IsExclusiveFault m words depth capacity (fault.BufferTooSmall needed report) =
    IsAccepted m words depth report × (capacity < needed) × (needed ≡ marks_of m)
IsExclusiveFault m words depth capacity (fault.Overlap s w n) =
    (report : Report) × IsAccepted m words depth report × (marks_of m ≤ capacity) × IsFirstOverlap m s w n

-- numbers of the buffer that aren't used stay as they were
abbrev pub KeepsUnused : ExclusiveFault → List ℕ → List ℕ → Type 0
KeepsUnused (fault.Refused r) old new = new ≡ old
KeepsUnused (fault.BufferTooSmall needed report) old new = new ≡ old
KeepsUnused (fault.Overlap s w n) old new = ⊤
