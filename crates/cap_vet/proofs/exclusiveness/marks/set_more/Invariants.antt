use Rattle.std.proofs.Common.{◌-◌, ◌≤◌}
use Rattle.cap_vet.proofs.Bits.{Reached}
use Rattle.cap_vet.proofs.exclusiveness.marks.set_more.Given as goal

abbrev pub invariant-loop-at : goal.invariant-loop-at
invariant-loop-at l = record {
  after : l.fn.from ≤ l.at;
  before : l.at ≤ l.end;
  reached : Reached l.fn.words l.words l.fn.from l.at;
}

abbrev pub decreases-loop-at : goal.decreases-loop-at
decreases-loop-at l = l.end - l.at
