-- The numbers of a call's answers (profile).
use Rattle.std.specs.Prelude.{ℕ}
use Rattle.cap_spec.specs.declared.Lax.{Lax}
use Rattle.cap_spec.specs.declared.Reason.{Reason}
use Rattle.cap_spec.specs.declared.StrictRefusal.{StrictRefusal}
use Rattle.cap_calls.specs.declared.answer.Answer.{Answer}
use Rattle.cap_calls.specs.declared.answer.Answer.TheVariants.{BadLimits, BadPath, BadSegment, BufferTooSmall}
use Rattle.cap_calls.specs.declared.answer.Answer.TheVariants.{CapabilityPad, CompositeOverrun, CompositeTag}
use Rattle.cap_calls.specs.declared.answer.Answer.TheVariants.{DepthLimit, EmptySegment, Good, HasCapability}
use Rattle.cap_calls.specs.declared.answer.Answer.TheVariants.{ManySegments, NoMessage, NoNode, NoRoot}
use Rattle.cap_calls.specs.declared.answer.Answer.TheVariants.{NotCanonical, NullPad, OutOfSegment, Overlap, PadIsFar}
use Rattle.cap_calls.specs.declared.answer.Answer.TheVariants.{PadNotFar, PadOutside, Reserved, SegmentMissing, TagKind}
use Rattle.cap_calls.specs.declared.answer.Answer.TheVariants.{TagOffset, TooLarge, TooManySegments, Trailing}
use Rattle.cap_calls.specs.declared.answer.Answer.TheVariants.{Truncated, WordLimit}
use Rattle.cap_spec.specs.declared.Lax.TheVariants as lax
use Rattle.cap_spec.specs.declared.Reason.TheVariants as reason
use Rattle.cap_spec.specs.declared.StrictRefusal.TheVariants as strict

-- the number of an answer
abbrev pub answer_number : Answer → ℕ
answer_number Good = 0
answer_number NoMessage = 1
answer_number TooManySegments = 2
answer_number TooLarge = 3
answer_number Truncated = 4
answer_number Trailing = 5
answer_number BadLimits = 8
answer_number BufferTooSmall = 9
answer_number BadPath = 10
answer_number BadSegment = 12
answer_number NotCanonical = 16
answer_number HasCapability = 17
answer_number Overlap = 18
answer_number NullPad = 19
answer_number EmptySegment = 20
answer_number NoNode = 21
answer_number CapabilityPad = 22
answer_number ManySegments = 23
answer_number NoRoot = 32
answer_number Reserved = 33
answer_number SegmentMissing = 34
answer_number PadOutside = 35
answer_number PadIsFar = 36
answer_number PadNotFar = 37
answer_number TagKind = 38
answer_number TagOffset = 39
answer_number OutOfSegment = 40
answer_number CompositeTag = 41
answer_number CompositeOverrun = 42
answer_number DepthLimit = 43
answer_number WordLimit = 44

-- the answer of the name of this reason
abbrev pub reason_answer : Reason → Answer
reason_answer reason.NoRoot = NoRoot
reason_answer reason.Reserved = Reserved
reason_answer reason.SegmentMissing = SegmentMissing
reason_answer reason.PadOutside = PadOutside
reason_answer reason.PadIsFar = PadIsFar
reason_answer reason.PadNotFar = PadNotFar
reason_answer reason.TagKind = TagKind
reason_answer reason.TagOffset = TagOffset
reason_answer reason.OutOfSegment = OutOfSegment
reason_answer reason.CompositeTag = CompositeTag
reason_answer reason.CompositeOverrun = CompositeOverrun
reason_answer reason.DepthLimit = DepthLimit
reason_answer reason.WordLimit = WordLimit

-- the answer of the name of this form
abbrev pub lax_answer : Lax → Answer
lax_answer lax.NullPad = NullPad
lax_answer lax.EmptySegment = EmptySegment
lax_answer lax.CapabilityPad = CapabilityPad

-- the answer for a message that is refused
abbrev pub refusal_answer : StrictRefusal → Answer
refusal_answer (strict.Refused refusal) = reason_answer refusal.reason
refusal_answer strict.ManySegments = ManySegments
refusal_answer (strict.Pointer what s w n) = lax_answer what
