use Rattle.std.proofs.Common.{◌-◌, ◌≤◌}
use Rattle.cap_trace.specs.EarlierPointers.{NoneUses, used_places}
use Rattle.cap_trace.specs.TraceNames.{path_of, HasCome}
use Rattle.cap_trace.proofs.earlier.first_using.Given as goal

abbrev pub invariant-words : goal.invariant-words
invariant-words g l =
    let m = g.M.Segments.segments l.message in record {
      before : l.at ≤ l.number;
      come : HasCome m l.depth l.at l.branches.items l.here;
      none : NoneUses m (used_places l.used) (path_of l.branches.items);
    }

abbrev pub decreases-words : goal.decreases-words
decreases-words g l = l.number - l.at
