-- An output that puts marks into lines, by its parts (profile).
use Rattle.std.specs.Io.KnownBytes.{Keeps}
use Rattle.std.specs.Prelude.{IsErrOf, List, OnOk, Option, Result, ℕ, ◌≡◌, length, true}
use Rattle.cap_words.specs.ByteIo.{AllocationFails, DeviceFails}
use Rattle.cap_words.specs.declared.byte_io.OutFault.{OutFault}
use Rattle.cap_words.specs.declared.byte_io.OutFault.TheVariants.{Device, Memory, Spent}
use Rattle.cap_words.specs.declared.byte_io.ByteOut as output
use Rattle.cap_cmd.specs.Marking.{shown_text}
use Rattle.cap_cmd.specs.declared.marked.MarkedLines.{MarkedLines}

-- `marked.into_inner()`
abbrev pub marked_out : {O : Type 0} → MarkedLines O → O
marked_out s = s.out

-- how many bytes of a mark were written without what comes after it
abbrev pub mark_part : {O : Type 0} → MarkedLines O → ℕ
mark_part s = s.done

-- it begins with a line, in which this mark comes at this place
pub record IsFresh {O : Type 0} (s : MarkedLines O) (mark : List ℕ) (place : ℕ) : Type 0 where
  pub mark_is : s.mark.items ≡ mark
  pub place_is : s.place ≡ place
  pub column_is : s.column ≡ 0
  pub done_is : s.done ≡ 0

module _ {O : Type 0} (g : output.Ghosts O) where
  -- the text that it was given, with its mark and place in front
  abbrev pub shown_by : MarkedLines O → Option (List ℕ)
  shown_by s = shown_text s.place s.mark.items s.column s.done (g.written s.out)

  -- the mark is written to its end, or the output failed in it
  pub record Finishes (old new : MarkedLines O) (r : Result (Unit {0}) OutFault) : Type 0 where
    pub mark : new.mark ≡ old.mark
    pub place : new.place ≡ old.place
    pub column : new.column ≡ old.column
    pub kept : Keeps (shown_by old) (shown_by new)
    pub whole : OnOk r (new.done ≡ length new.mark.items)
    pub unfailed : OnOk r (g.failures new.out ≡ g.failures old.out)
    pub unbroken : OnOk r (g.broken new.out ≡ g.broken old.out)
    pub for_good : g.broken old.out ≡ true → new ≡ old
    pub device : IsErrOf r Device → DeviceFails (g.broken old.out) (g.failures old.out) (g.failures new.out) × (g.broken new.out ≡ true)
    pub memory : IsErrOf r Memory → AllocationFails (g.broken old.out) (g.failures old.out) (g.failures new.out)
    pub spent : IsErrOf r Spent → (g.broken old.out ≡ true) × (new ≡ old)
