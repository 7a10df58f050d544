-- The lines that explain why a stream breaks off at a message (profile).
use Rattle.std.specs.Prelude.{Bool, List, None, Option, Some, [], codes, decimal, false, if◌then◌else◌, true, ℕ, ◌++◌}
use Rattle.std.specs.Prelude.{◌-◌, ◌∷◌}
use Rattle.cap_frame.specs.declared.fault.FrameFault.{FrameFault}
use Rattle.cap_frame.specs.declared.fault.FrameFault.TheVariants.{Device, Memory, Spent, TooLarge, TooManySegments}
use Rattle.cap_frame.specs.declared.fault.FrameFault.TheVariants.{Truncated}
use Rattle.cap_frame.specs.declared.table.TableSums.{TableSums}
use Rattle.cap_text.specs.FaultLines.{run_fault_line}
use Rattle.cap_text.specs.Guesses.{break_guess, guess_line}
use Rattle.cap_text.specs.declared.fault.Cause.{Cause}
use Rattle.cap_text.specs.declared.fault.Cause.TheVariants.{Canon, Frame, NotStrict, Output, Refused, TooManyMessages}
use Rattle.cap_text.specs.declared.fault.Cause.TheVariants.{Memory as no_marks}
use Rattle.cap_text.specs.declared.fault.ExplainedFault.{ExplainedFault}
use Rattle.cap_text.specs.declared.fault.StreamBreak.{StreamBreak}

-- the input in which bytes are counted: those of a packed one are counted packed
abbrev pub of_packed_input : Bool → List ℕ
of_packed_input packed = if packed then codes " of the packed input" else codes " of the input"

-- where the message begins
abbrev pub message_line : StreamBreak → List ℕ
message_line at =
    (codes "  message at byte " ++ decimal at.start) ++ (of_packed_input at.packed ++ 10 ∷ [])

-- what its table says, if that is whole
abbrev pub table_line : Option TableSums → List ℕ
table_line None = []
table_line (Some t) =
    ((codes "  table segments " ++ decimal t.segments) ++ (codes ", words " ++ decimal t.words)) ++ 10 ∷ []

-- how bytes are counted, if the input is packed
abbrev pub packed_note : Bool → List ℕ
packed_note packed = if packed then codes " packed" else []

abbrev pub unpacked_note : Bool → List ℕ
unpacked_note packed = if packed then codes " unpacked" else []

-- the bytes of the whole message, its table included
abbrev pub needed_text : Bool → Option TableSums → List ℕ
needed_text packed None = []
needed_text packed (Some t) = (codes ", needed " ++ decimal t.bytes) ++ unpacked_note packed

-- how many bytes of the message are there, of those that its table says
abbrev pub bytes_line : ℕ → StreamBreak → List ℕ
bytes_line byte at =
    ((codes "  bytes there " ++ decimal (byte - at.start))
    ++ (packed_note at.packed ++ needed_text at.packed at.table)) ++ 10 ∷ []

-- more segments than a message may have
abbrev pub many_line : ℕ → List ℕ
many_line count = (codes "  segments " ++ decimal count) ++ (codes ", limit 512" ++ 10 ∷ [])

-- more words than the limit
abbrev pub large_line : ℕ → ℕ → List ℕ
large_line words limit =
    ((codes "  words " ++ decimal words) ++ (codes ", limit " ++ decimal limit)) ++ 10 ∷ []

-- the part of the message in which the input ends: its table, if that isn't whole
abbrev pub cut_part : Option TableSums → List ℕ
cut_part None = codes "the input ends inside the segment table"
cut_part (Some t) = codes "the input ends inside the segments"

-- what is cut then, of an input that is packed or not
abbrev pub cut_place : Bool → Bool → List ℕ
cut_place false false = codes ", between two words"
cut_place false true = codes ", and inside a word"
cut_place true false = codes ", between two packed groups"
cut_place true true = codes ", and inside a packed group"

-- the reason as a sentence
abbrev pub break_reason : List ℕ → List ℕ
break_reason sentence = (codes "  reason " ++ sentence) ++ 10 ∷ []

-- where the input ends
abbrev pub cut_line : StreamBreak → List ℕ
cut_line at = break_reason (cut_part at.table ++ cut_place at.packed at.is_cut)

-- the lines on a message that is cut short at a byte
abbrev pub cut_lines : ℕ → StreamBreak → List ℕ
cut_lines byte at = bytes_line byte at ++ cut_line at

-- the lines on a message that can't be read
abbrev pub break_lines : FrameFault → StreamBreak → List ℕ
break_lines (TooManySegments count) at = message_line at ++ (many_line count
    ++ break_reason (codes "the first word of the message says more segments than a message may have"))
break_lines (TooLarge words) at = message_line at ++ (table_line at.table ++ (large_line words at.limit
    ++ break_reason (codes "the segments together have more words than the limit allows")))
break_lines (Truncated byte) at = message_line at ++ (table_line at.table ++ cut_lines byte at)
break_lines Device at = []
break_lines Memory at = []
break_lines Spent at = []

-- the same on message n, and the line of a guess
abbrev pub guessed_lines : ℕ → FrameFault → StreamBreak → List ℕ
guessed_lines n fault at = break_lines fault at ++ guess_line (break_guess n fault at)

-- the lines by why an engine ended at message n
abbrev pub cause_lines : ℕ → Cause → StreamBreak → List ℕ
cause_lines n TooManyMessages at = []
cause_lines n (Frame fault) at = guessed_lines n fault at
cause_lines n (Output fault) at = []
cause_lines n (Refused refusal) at = []
cause_lines n (NotStrict fault) at = []
cause_lines n (Canon fault) at = []
cause_lines n no_marks at = []

-- the line of a fault, and the lines that explain it
abbrev pub explained_fault_text : ExplainedFault → List ℕ
explained_fault_text fault =
    run_fault_line fault.fault ++ cause_lines fault.fault.message fault.fault.cause fault.at
