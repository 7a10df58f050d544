-- Each reason of a refusal, as a sentence (profile).
use Rattle.std.specs.Prelude.{Bool, List, None, Option, Some, codes, false, if◌then◌else◌, nat_lt, true, ℕ}
use Rattle.cap_spec.specs.declared.Lax.{Lax}
use Rattle.cap_spec.specs.declared.Lax.TheVariants.{CapabilityPad, EmptySegment, NullPad}
use Rattle.cap_spec.specs.declared.Reason.{Reason}
use Rattle.cap_spec.specs.declared.Reason.TheVariants.{CompositeOverrun, CompositeTag, DepthLimit, NoRoot, OutOfSegment}
use Rattle.cap_spec.specs.declared.Reason.TheVariants.{PadIsFar, PadNotFar, PadOutside, Reserved, SegmentMissing}
use Rattle.cap_spec.specs.declared.Reason.TheVariants.{TagKind, TagOffset, WordLimit}
use Rattle.cap_difference.specs.declared.reason.DifferenceReason.{DifferenceReason}
use Rattle.cap_difference.specs.declared.reason.DifferenceReason.TheVariants as reason
use Rattle.cap_ptr.specs.Shapes.{is_structs}
use Rattle.cap_explain.specs.declared.landing.Landing.{Landing}
use Rattle.cap_explain.specs.declared.landing.Landing.TheVariants.{One, Two}
use Rattle.cap_explain.specs.declared.sentences.Fault.{Fault}
use Rattle.cap_explain.specs.declared.sentences.Fault.TheVariants.{Differs, ManySegments, NotStrict, Overlap, Refused}
use Rattle.cap_explain.specs.declared.target.Target.{Target}

-- the pointer itself is reserved, or the word of its landing pad
abbrev pub reserved_sentence : Landing → List ℕ
reserved_sentence (One word) =
    codes "the low two bits of the landing pad are 3, but it is not a valid capability pointer; the format reserves such words"
reserved_sentence _ =
    codes "the low two bits of the pointer are 3, but it is not a valid capability pointer; the format reserves such words"

-- the pointer itself names the missing segment, or the first word of its landing pad
abbrev pub missing_sentence : Landing → List ℕ
missing_sentence (Two far tag) =
    codes "the first word of the landing pad names a segment that the message does not have"
missing_sentence _ = codes "the far pointer names a segment that the message does not have"

-- the target begins too early or ends too late
abbrev pub outside_sentence : Option Target → List ℕ
outside_sentence None = codes "the target is not all inside its segment"
outside_sentence (Some t) =
    if nat_lt t.start t.excess then codes "the target begins before the start of its segment" else
    codes "the target runs past the end of its segment"

-- the target itself is too deep, or for a list of structs one of these
abbrev pub deep_sentence : Option Target → List ℕ
deep_sentence None = codes "the target is at a deeper level than the limit allows"
deep_sentence (Some t) =
    if is_structs t.word then
    codes "the list of structs, or its structs, are at a deeper level than the limit allows" else
    codes "the target is at a deeper level than the limit allows"

abbrev pub reason_sentence : Reason → Landing → Option Target → List ℕ
reason_sentence NoRoot pad target =
    codes "segment 0 has no words, so the message has no root pointer"
reason_sentence Reserved pad target = reserved_sentence pad
reason_sentence SegmentMissing pad target = missing_sentence pad
reason_sentence PadOutside pad target = codes "the landing pad is not all inside its segment"
reason_sentence PadIsFar pad target =
    codes "the only word of the landing pad is a far pointer again"
reason_sentence PadNotFar pad target =
    codes "the first word of the landing pad is not a far pointer to a pad of one word"
reason_sentence TagKind pad target =
    codes "the second word of the landing pad is neither a struct pointer nor a list pointer"
reason_sentence TagOffset pad target =
    codes "the second word of the landing pad has an offset other than 0"
reason_sentence OutOfSegment pad target = outside_sentence target
reason_sentence CompositeTag pad target =
    codes "the first word of the list of structs is not a struct tag"
reason_sentence CompositeOverrun pad target =
    codes "the elements that the tag gives need more words than the list has"
reason_sentence DepthLimit pad target = deep_sentence target
reason_sentence WordLimit pad target =
    codes "the charge up to this pointer and its target is more than the limit"

abbrev pub lax_sentence : Lax → List ℕ
lax_sentence NullPad = codes "the only word of the landing pad is null, which common readers reject"
lax_sentence EmptySegment =
    codes "the target is in a segment without words, which common readers reject"
lax_sentence CapabilityPad =
    codes "the only word of the landing pad is a capability, which common readers reject"

-- why an accepted message isn't its own canonical copy
abbrev pub difference_sentence : DifferenceReason → List ℕ
difference_sentence reason.Segments =
    codes "the message has more than one segment, and a canonical message has one"
difference_sentence reason.Far =
    codes "the pointer is a far pointer, and a canonical message has none"
difference_sentence reason.Capability =
    codes "the pointer is a capability, so the message has no canonical copy"
difference_sentence reason.EmptyStruct =
    codes "the target is a struct without words, and the pointer of a canonical message to it is fcffffff00000000"
difference_sentence reason.Place =
    codes "the target is not where the canonical copy has it: it is out of preorder, after a gap, or used twice"
difference_sentence reason.Bits =
    codes "bits are set after the last value of the list, and a canonical message has zeros there"
difference_sentence reason.EmptyList =
    codes "the list of structs has no elements, and a canonical message has no sizes in the tag of such a list"
difference_sentence reason.Surplus =
    codes "the list of structs has words after its last element, and a canonical message has none"
difference_sentence reason.DataZero =
    codes "the last data word of the struct, or of all structs of the list, is zero, and a canonical message leaves it out"
difference_sentence reason.PointerNull =
    codes "the last pointer of the struct, or of all structs of the list, is null, and a canonical message leaves it out"
difference_sentence reason.Trailing =
    codes "words come after the last object, and a canonical message ends with it"

-- the reason, by the landing pad and the target of the pointer
abbrev pub sentence : Fault → Landing → Option Target → List ℕ
sentence (Refused reason) pad target = reason_sentence reason pad target
sentence ManySegments pad target =
    codes "the message has 512 segments, and common readers take at most 511"
sentence (NotStrict what) pad target = lax_sentence what
sentence Overlap pad target =
    codes "the pointer uses a word twice, the root word, or one that an earlier pointer uses; --exclusive forbids all three"
sentence (Differs reason) pad target = difference_sentence reason

-- the fault is one of a pointer
abbrev pub names_pointer : Fault → Bool
names_pointer ManySegments = false
names_pointer (Differs reason.Segments) = false
names_pointer (Differs reason.Trailing) = false
names_pointer _ = true
