-- What a call reports beside its answer, and what it returns for bytes without a frame (profile).
use Rattle.std.specs.Prelude.{replicate, unwrap_or, ℕ}
use Rattle.cap_spec.specs.declared.StrictRefusal.{StrictRefusal}
use Rattle.cap_spec.specs.declared.StrictRefusal.TheVariants.{ManySegments, Pointer, Refused}
use Rattle.cap_difference.specs.declared.difference.Difference.{Difference}
use Rattle.cap_walk.specs.declared.report.Report.{Report}
use Rattle.cap_calls.specs.DifferenceNumbers.{reason_number}
use Rattle.cap_calls.specs.declared.answer.Answer.{Answer}
use Rattle.cap_calls.specs.declared.front.NoFrame.{NoFrame}
use Rattle.cap_calls.specs.declared.front.NoFrame.TheVariants.{BadLimits, Fault, NoMessage}
use Rattle.cap_calls.specs.declared.report.CallReport.{CallReport}
use Rattle.cap_frame.specs.declared.fault.FrontFault.TheVariants as fault
use Rattle.cap_calls.specs.declared.answer.Answer.TheVariants as answer

-- nothing is reported
abbrev pub none_report : CallReport
none_report =
    record {
      length = 0;
      input_required = 0;
      detail = 0;
      charge = 0;
      pointers = 0;
      capabilities = 0;
      depth = 0;
      segments = 0;
      segment = 0;
      word = 0;
      words = 0;
      reserved = replicate 6 0;
    }

-- of bytes without a frame: how many segments or words it would have
abbrev pub cause_detail : NoFrame → ℕ
cause_detail BadLimits = 0
cause_detail NoMessage = 0
cause_detail (Fault (fault.TooManySegments count)) = count
cause_detail (Fault (fault.TooLarge words)) = words
cause_detail (Fault (fault.Truncated needed)) = 0

-- how many bytes the input needs at least
abbrev pub cause_input_required : NoFrame → ℕ
cause_input_required BadLimits = 0
cause_input_required NoMessage = 8
cause_input_required (Fault (fault.TooManySegments count)) = 0
cause_input_required (Fault (fault.TooLarge words)) = 0
cause_input_required (Fault (fault.Truncated needed)) = needed

-- of bytes without a frame
abbrev pub no_frame_report : NoFrame → CallReport
no_frame_report cause =
    record none_report { input_required = cause_input_required cause; detail = cause_detail cause }

-- of a message that this many bytes follow, apart from its frame
abbrev pub trailing_report : ℕ → CallReport
trailing_report bytes = record none_report { detail = bytes }

-- of a pointer of a message, and how many were checked
abbrev pub place_report : ℕ → ℕ → ℕ → CallReport
place_report s w n = record none_report { pointers = n; segment = s; word = w }

-- of a message that is refused, apart from its frame
abbrev pub refused_report : StrictRefusal → CallReport
refused_report (Refused refusal) = place_report refusal.segment refusal.word refusal.pointers
refused_report ManySegments = none_report
refused_report (Pointer what s w n) = place_report s w n

-- of one that is accepted, with its first capability
abbrev pub accepted_report : Report → CallReport
accepted_report report =
    let first = unwrap_or report.first_cap (0, 0) in
    record none_report {
      charge = report.charge;
      pointers = report.pointers;
      capabilities = report.caps;
      depth = report.depth;
      segment = first.0;
      word = first.1;
    }

-- of one that is accepted and isn't canonical: its first difference, and the number of the reason
abbrev pub difference_report : Difference → Report → CallReport
difference_report difference report =
    record (accepted_report report) {
      detail = reason_number difference.reason;
      pointers = difference.pointers;
      segment = difference.segment;
      word = difference.word;
    }

-- what is answered for bytes without a frame
abbrev pub cause_answer : NoFrame → Answer
cause_answer BadLimits = answer.BadLimits
cause_answer NoMessage = answer.NoMessage
cause_answer (Fault (fault.TooManySegments count)) = answer.TooManySegments
cause_answer (Fault (fault.TooLarge words)) = answer.TooLarge
cause_answer (Fault (fault.Truncated needed)) = answer.Truncated
