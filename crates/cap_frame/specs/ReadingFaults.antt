-- What each fault of reading a message says of the source and of its words (profile).
use Rattle.std.specs.Prelude.{Err, List, Ok, Result, [], sum, ℕ, ⊤, ◌%◌, ◌+◌, ◌<◌, ◌^◌, ◌∷◌, ◌≡◌, ◌≤◌}
use Rattle.cap_spec.specs.Frames.{IsPartial, IsTable}
use Rattle.cap_words.specs.declared.sources.SourceFault.{SourceFault}
use Rattle.cap_frame.specs.Taking.{Breaks, EndsAfter, IsUsable, Refuses, Takes}
use Rattle.cap_frame.specs.declared.fault.FrameFault.{FrameFault}
use Rattle.cap_frame.specs.declared.fault.FrameFault.TheVariants.{Device, Memory, Spent, TooLarge, TooManySegments}
use Rattle.cap_frame.specs.declared.fault.FrameFault.TheVariants.{Truncated}
use Rattle.cap_words.specs.declared.sources.SourceFault.TheVariants as fault
use Rattle.cap_words.specs.declared.sources.WordSource as source

-- P, unless the result is an error of I/O, of memory, or of a source that was closed by an earlier
-- error
abbrev pub Answered : {A : Type 0} → Result A FrameFault → Type 0 → Type 0
Answered (Ok x) P = P
Answered (Err (TooManySegments n)) P = P
Answered (Err (TooLarge n)) P = P
Answered (Err (Truncated n)) P = P
Answered (Err Device) P = ⊤
Answered (Err Memory) P = ⊤
Answered (Err Spent) P = ⊤

-- a fault of a source as one of reading a message
abbrev pub frame_fault_of : SourceFault → FrameFault
frame_fault_of (fault.Truncated byte) = Truncated byte
frame_fault_of fault.Device = Device
frame_fault_of fault.Spent = Spent

module _ {X : Type 0} (g : source.Ghosts X) where
  -- The first word gives too many segments.
  pub record TakesTooMany (old new : X) (count : ℕ) : Type 0 where
    pub first : ℕ
    pub takes : Takes g old new (first ∷ [])
    pub count_is : count ≡ first % 2 ^ 32 + 1
    pub many : 512 < count

  -- A table of at most 512 segments was taken, and no more.
  pub record TakesTable (old new : X) (sizes : List ℕ) : Type 0 where
    pub table : List ℕ
    pub takes : Takes g old new table
    pub is_table : IsTable table sizes

  -- what each fault says
  abbrev pub Faults : ℕ → X → X → FrameFault → Type 0
  Faults limit old new (TooManySegments count) = TakesTooMany old new count × IsUsable g old new
  Faults limit old new (TooLarge words) = ((sizes : List ℕ) × TakesTable old new sizes × (words ≡ sum sizes) × (limit < words))
      × IsUsable g old new
  Faults limit old new (Truncated byte) = EndsAfter g (λ ws. IsPartial limit ws (g.is_cut old)) old new byte
  Faults limit old new Device = Breaks g old new
  Faults limit old new Memory = ((sizes : List ℕ) × TakesTable old new sizes × (sum sizes ≤ limit))
      × IsUsable g old new
  Faults limit old new Spent = Refuses g old new
