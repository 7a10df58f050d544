-- The names of reasons, of which JSON escapes nothing.
use Rattle.std.proofs.Common.{refl, ◌≡◌}
use Rattle.json.specs.Print.{escape, escape_byte}
use Rattle.cap_spec.specs.Texts.{lax_name, reason_name}
use Rattle.cap_spec.specs.declared.Lax.{Lax}
use Rattle.cap_spec.specs.declared.Lax.TheVariants.{CapabilityPad, EmptySegment, NullPad}
use Rattle.cap_spec.specs.declared.Reason.{Reason}
use Rattle.cap_spec.specs.declared.Reason.TheVariants.{CompositeOverrun, CompositeTag, DepthLimit, NoRoot, OutOfSegment}
use Rattle.cap_spec.specs.declared.Reason.TheVariants.{PadIsFar, PadNotFar, PadOutside, Reserved, SegmentMissing}
use Rattle.cap_spec.specs.declared.Reason.TheVariants.{TagKind, TagOffset, WordLimit}
use Rattle.cap_difference.specs.declared.reason.DifferenceReason.{DifferenceReason}
use Rattle.cap_difference.specs.declared.reason.DifferenceReason.TheVariants as reason
use Rattle.cap_text.specs.DifferenceLines.{difference_name}

pub reason_escapes : (r : Reason) → escape (reason_name r) ≡ reason_name r
unfolding escape_byte
reason_escapes NoRoot = refl
reason_escapes Reserved = refl
reason_escapes SegmentMissing = refl
reason_escapes PadOutside = refl
reason_escapes PadIsFar = refl
reason_escapes PadNotFar = refl
reason_escapes TagKind = refl
reason_escapes TagOffset = refl
reason_escapes OutOfSegment = refl
reason_escapes CompositeTag = refl
reason_escapes CompositeOverrun = refl
reason_escapes DepthLimit = refl
reason_escapes WordLimit = refl

pub lax_escapes : (what : Lax) → escape (lax_name what) ≡ lax_name what
unfolding escape_byte
lax_escapes NullPad = refl
lax_escapes EmptySegment = refl
lax_escapes CapabilityPad = refl

pub difference_escapes : (r : DifferenceReason) → escape (difference_name r) ≡ difference_name r
unfolding escape_byte
difference_escapes reason.Segments = refl
difference_escapes reason.Far = refl
difference_escapes reason.Capability = refl
difference_escapes reason.EmptyStruct = refl
difference_escapes reason.Place = refl
difference_escapes reason.Bits = refl
difference_escapes reason.EmptyList = refl
difference_escapes reason.Surplus = refl
difference_escapes reason.DataZero = refl
difference_escapes reason.PointerNull = refl
difference_escapes reason.Trailing = refl
