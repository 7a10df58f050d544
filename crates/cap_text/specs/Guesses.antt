-- What an input may be that is no framed stream (profile). This is a guess: by the four bytes with which the
-- input begins, or by how few bytes its messages have. The four bytes are read as a number, the lowest byte first.
use Rattle.std.specs.Prelude.{Bool, List, None, Option, Some, [], codes, false, if◌then◌else◌, nat_lt, ℕ, ◌&&◌, ◌*◌, ◌++◌}
use Rattle.std.specs.Prelude.{◌-◌, ◌==◌, ◌||◌, ◌∷◌}
use Rattle.cap_spec.specs.Words.{field}
use Rattle.cap_frame.specs.declared.fault.FrameFault.{FrameFault}
use Rattle.cap_frame.specs.declared.fault.FrameFault.TheVariants.{Device, Memory, Spent, TooLarge, TooManySegments}
use Rattle.cap_frame.specs.declared.fault.FrameFault.TheVariants.{Truncated}
use Rattle.cap_text.specs.FaultLines.{run_fault_line}
use Rattle.cap_text.specs.declared.fault.Cause.{Cause}
use Rattle.cap_text.specs.declared.fault.Cause.TheVariants.{Canon, Frame, NotStrict, Output, Refused, TooManyMessages}
use Rattle.cap_text.specs.declared.fault.Cause.TheVariants.{Memory as no_marks}
use Rattle.cap_text.specs.declared.fault.RunFault.{RunFault}
use Rattle.cap_text.specs.declared.fault.StreamBreak.{StreamBreak}
use Rattle.cap_text.specs.declared.guess.Guess.{Guess}
use Rattle.cap_text.specs.declared.guess.Guess.TheVariants as guess

-- gzip (RFC 1952, 2.3.1): the bytes 1f 8b and the method 8, deflate
abbrev pub is_gzip : ℕ → Bool
is_gzip first = field first 0 24 == 559903

-- a record of TLS (RFC 8446, 5.1): a type from 20 to 23, and a version from 3.0 to 3.4
abbrev pub is_tls : ℕ → Bool
is_tls first = (nat_lt 19 (field first 0 8) && nat_lt (field first 0 8) 24)
    && (field first 8 8 == 3 && nat_lt (field first 16 8) 5)

-- a byte of text: a printable one of ASCII, a tab, or one that ends a line
abbrev pub is_text_byte : ℕ → Bool
is_text_byte b = (b == 9 || (b == 10 || b == 13)) || (nat_lt 31 b && nat_lt b 127)

-- The bytes 30 and 50 have both forms. Here they are what packing writes of a table that says 256 words or
-- more, and of the root pointer after it.
abbrev pub is_packed_root : ℕ → Bool
is_packed_root first = field first 0 8 == 48 && field first 24 8 == 80

-- four bytes of text
abbrev pub is_text : ℕ → Bool
is_text first = if is_packed_root first then false else
    (is_text_byte (field first 0 8) && is_text_byte (field first 8 8))
    && (is_text_byte (field first 16 8) && is_text_byte (field first 24 8))

-- the first word of a table as packing writes it, for at most 256 segments: the first of them has at least one
-- word, and fewer than 2^24. The byte after the tag isn't zero (encoding: Packing)
abbrev pub looks_packed : ℕ → Bool
looks_packed first = (field first 1 3 == 0 && field first 7 1 == 0)
    && (nat_lt 0 (field first 4 3) && nat_lt 0 (field first 8 8))

-- what an input may be that is read as it is
abbrev pub plain_guess : ℕ → Option Guess
plain_guess first = if is_gzip first then Some guess.Gzip else
    (if is_tls first then Some guess.Tls else
    (if is_text first then Some guess.Text else
    (if looks_packed first then Some guess.Packed else None)))

-- What unpacking makes of gzip: the byte 1f is the tag, so the word begins with 8b 08.
abbrev pub is_unpacked_gzip : ℕ → Bool
is_unpacked_gzip first = field first 0 16 == 2187

-- what it makes of a handshake of TLS: the type 16 is the tag, so the word begins with 00 03, the minor version
-- and 00
abbrev pub is_unpacked_tls : ℕ → Bool
is_unpacked_tls first = field first 0 16 == 768 && nat_lt (field first 16 16) 5

-- what an input may be that is read as packed
abbrev pub unpacked_guess : ℕ → Option Guess
unpacked_guess first = if is_unpacked_gzip first then Some guess.Gzip else
    (if is_unpacked_tls first then Some guess.Tls else None)

-- The first four bytes say so many segments, less one.
abbrev pub count_guess : Bool → ℕ → Option Guess
count_guess packed count = if packed then unpacked_guess (count - 1) else plain_guess (count - 1)

-- A message with words has four packed bytes or more. The table of a stream that isn't packed unpacks to
-- messages without words. Message n begins at this byte of the input.
abbrev pub few_guess : Bool → ℕ → ℕ → Option Guess
few_guess packed n start = if packed && nat_lt start (4 * n) then Some guess.Plain else None

-- the guess where message n of a stream can't be read, by what is known of it
abbrev pub break_guess : ℕ → FrameFault → StreamBreak → Option Guess
break_guess n (TooManySegments count) at =
    if n == 0 then count_guess at.packed count else few_guess at.packed n at.start
break_guess n (TooLarge words) at = few_guess at.packed n at.start
break_guess n (Truncated byte) at = few_guess at.packed n at.start
break_guess n Device at = None
break_guess n Memory at = None
break_guess n Spent at = None

-- The first word of a table of too many segments, or of one that is too large, isn't zero. So it has two
-- packed bytes or more. If no byte after this place was read, the message begins at this byte at the latest.
abbrev pub latest_start : ℕ → ℕ
latest_start place = place - 2

-- The same guess if it isn't known where message n begins. No byte of the input after this place was read.
abbrev pub frame_guess : Bool → ℕ → ℕ → FrameFault → Option Guess
frame_guess packed place n (TooManySegments count) =
    if n == 0 then count_guess packed count else few_guess packed n (latest_start place)
frame_guess packed place n (TooLarge words) = few_guess packed n (latest_start place)
frame_guess packed place n (Truncated byte) = few_guess packed n byte
frame_guess packed place n Device = None
frame_guess packed place n Memory = None
frame_guess packed place n Spent = None

-- the guess where an engine ended at message n
abbrev pub cause_guess : Bool → ℕ → ℕ → Cause → Option Guess
cause_guess packed place n TooManyMessages = None
cause_guess packed place n (Frame fault) = frame_guess packed place n fault
cause_guess packed place n (Output fault) = None
cause_guess packed place n (Refused refusal) = None
cause_guess packed place n (NotStrict fault) = None
cause_guess packed place n (Canon fault) = None
cause_guess packed place n no_marks = None

-- what is said of a guess
abbrev pub guess_text : Guess → List ℕ
guess_text guess.Gzip = codes "the input looks like gzip: decompress it first"
guess_text guess.Tls = codes "the input looks like TLS: decrypt it first"
guess_text guess.Text = codes "the input looks like text"
guess_text guess.Packed = codes "the input looks packed: try --packed"
guess_text guess.Plain = codes "the input looks unpacked: try it without --packed"

-- its line, if there is one
abbrev pub guess_line : Option Guess → List ℕ
guess_line None = []
guess_line (Some g) = (codes "capvet: " ++ guess_text g) ++ 10 ∷ []

-- the line of a fault, and the line of a guess
abbrev pub guessed_fault_text : Bool → ℕ → RunFault → List ℕ
guessed_fault_text packed place fault =
    run_fault_line fault ++ guess_line (cause_guess packed place fault.message fault.cause)
