use Rattle.std.proofs.Common.{◌-◌, ◌≤◌}
use Rattle.cap_trace.specs.TraceNames.{HasCome}
use Rattle.cap_trace.proofs.seeking.seek.Given as goal

abbrev pub invariant-words : goal.invariant-words
invariant-words g l = record {
  few : l.at ≤ l.number;
  come : HasCome (g.M.Segments.segments l.message) l.depth l.at l.branches.items l.here;
}

abbrev pub decreases-words : goal.decreases-words
decreases-words g l = l.number - l.at
