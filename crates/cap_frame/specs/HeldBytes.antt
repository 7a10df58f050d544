-- What contracts see of a message in one buffer (profile).
use Rattle.std.specs.Prelude.{Bool, Err, List, Ok, Result, false, true, vec_capacity, ℕ, ⊤, ◌≡◌}
use Rattle.cap_frame.specs.Bytes.{cut}
use Rattle.cap_frame.specs.declared.byte_message.ByteMessage.{ByteMessage}
use Rattle.cap_frame.specs.declared.fault.FrameFault.{FrameFault}
use Rattle.cap_frame.specs.declared.fault.FrameFault.TheVariants.{Device, Memory, Spent, TooLarge, TooManySegments}
use Rattle.cap_frame.specs.declared.fault.FrameFault.TheVariants.{Truncated}

-- the words of each segment
abbrev pub held_segments : ByteMessage → List (List ℕ)
held_segments m = cut m.sizes.items m.bytes.items

-- the capacity of its buffer, in bytes
abbrev pub capacity_in : ByteMessage → ℕ
capacity_in m = vec_capacity m.bytes

-- The capacity of a buffer that a message was read into, before and after. It stays where the
-- contents weren't begun, and a buffer for which there is no memory is freed.
abbrev pub CapacityAfter : Result Bool FrameFault → ℕ → ℕ → Type 0
CapacityAfter (Ok true) old new = ⊤
CapacityAfter (Ok false) old new = new ≡ old
CapacityAfter (Err (TooManySegments count)) old new = new ≡ old
CapacityAfter (Err (TooLarge words)) old new = new ≡ old
CapacityAfter (Err (Truncated byte)) old new = ⊤
CapacityAfter (Err Device) old new = ⊤
CapacityAfter (Err Memory) old new = new ≡ 0
CapacityAfter (Err Spent) old new = ⊤
