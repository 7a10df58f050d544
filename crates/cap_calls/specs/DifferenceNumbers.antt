-- The numbers of the reasons why a message isn't canonical (profile).
use Rattle.std.specs.Prelude.{ℕ}
use Rattle.cap_difference.specs.declared.reason.DifferenceReason.{DifferenceReason}
use Rattle.cap_difference.specs.declared.reason.DifferenceReason.TheVariants.{Bits, Capability, DataZero, EmptyList}
use Rattle.cap_difference.specs.declared.reason.DifferenceReason.TheVariants.{EmptyStruct, Far, Place, PointerNull}
use Rattle.cap_difference.specs.declared.reason.DifferenceReason.TheVariants.{Segments, Surplus, Trailing}

-- the number of a reason
abbrev pub reason_number : DifferenceReason → ℕ
reason_number Segments = 1
reason_number Far = 2
reason_number Capability = 3
reason_number EmptyStruct = 4
reason_number Place = 5
reason_number Bits = 6
reason_number EmptyList = 7
reason_number Surplus = 8
reason_number DataZero = 9
reason_number PointerNull = 10
reason_number Trailing = 11
