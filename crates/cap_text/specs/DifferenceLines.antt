-- What is written about the first difference of an accepted message from its canonical copy (profile; RFC 8259).
use Rattle.std.specs.Prelude.{List, None, Option, Some, codes, true, ℕ, ◌++◌}
use Rattle.cap_spec.specs.Texts.{check_text, message_text, then_number}
use Rattle.cap_spec.specs.declared.Step.{Step}
use Rattle.cap_difference.specs.declared.difference.Difference.{Difference}
use Rattle.cap_difference.specs.declared.reason.DifferenceReason.{DifferenceReason}
use Rattle.cap_difference.specs.declared.reason.DifferenceReason.TheVariants as reason
use Rattle.cap_text.specs.FaultLines.{place_text}
use Rattle.cap_text.specs.JsonLines.{number_members, object_start, reason_members}

-- the name of a reason
abbrev pub difference_name : DifferenceReason → List ℕ
difference_name reason.Segments = codes "Segments"
difference_name reason.Far = codes "Far"
difference_name reason.Capability = codes "Capability"
difference_name reason.EmptyStruct = codes "EmptyStruct"
difference_name reason.Place = codes "Place"
difference_name reason.Bits = codes "Bits"
difference_name reason.EmptyList = codes "EmptyList"
difference_name reason.Surplus = codes "Surplus"
difference_name reason.DataZero = codes "DataZero"
difference_name reason.PointerNull = codes "PointerNull"
difference_name reason.Trailing = codes "Trailing"

-- the line of message n, which is accepted: that it is canonical, or the first difference from its copy
abbrev pub difference_text : ℕ → Option Difference → List ℕ
difference_text n None = check_text n true
difference_text n (Some d) = message_text n (codes "not canonical: " ++ difference_name d.reason ++ place_text d.segment d.word
    ++ codes " pointers" ++ then_number d.pointers)

-- the same as members of an object, with the path to the pointer that is named and the reason as a sentence
abbrev pub canonical_members : Option Difference → Option (List Step) → List ℕ → List ℕ
canonical_members None path sentence = codes ",\"canonical\":true"
canonical_members (Some d) path sentence = codes ",\"canonical\":false,\"difference\":{"
    ++ reason_members (difference_name d.reason) d.segment d.word d.pointers path sentence ++ codes "}"

-- the object of message n, which is accepted, up to these members
abbrev pub canonical_start : ℕ → ℕ → ℕ → ℕ → ℕ → List ℕ → List ℕ
canonical_start n c d p k members = object_start n (codes "accepted") ++ number_members c d p k ++ members
