use Rattle.std.proofs.Common.{length, ◌-◌, ◌≡◌, true}
use Rattle.std.specs.Io.KnownBytes.{Keeps}
use Rattle.cap_cmd.specs.Marked.{shown_by}
use Rattle.cap_cmd.proofs.marked.MarkedLines.finish_mark.Given as goal

abbrev pub invariant-loop-self : goal.invariant-loop-self
invariant-loop-self g l = record {
  mark : l.self.mark ≡ l.initial.self.mark;
  place : l.self.place ≡ l.initial.self.place;
  column : l.self.column ≡ l.initial.self.column;
  kept : Keeps (shown_by g.O.ByteOut l.initial.self) (shown_by g.O.ByteOut l.self);
  unfailed : g.O.ByteOut.failures l.self.out ≡ g.O.ByteOut.failures l.initial.self.out;
  unbroken : g.O.ByteOut.broken l.self.out ≡ g.O.ByteOut.broken l.initial.self.out;
  for_good : g.O.ByteOut.broken l.initial.self.out ≡ true → l.self ≡ l.initial.self;
}

abbrev pub decreases-loop-self : goal.decreases-loop-self
decreases-loop-self g l = length l.self.mark.items - l.self.done
