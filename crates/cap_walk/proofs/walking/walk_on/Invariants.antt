use Rattle.std.proofs.Common.{[], length, ◌++◌, ◌<◌, ◌∷◌}
use Rattle.cap_walk.specs.WalkNames.{words_of, IsWalking, work_left}
use Rattle.cap_walk.proofs.walking.walk_on.Given as goal

abbrev pub invariant-walk : goal.invariant-walk
invariant-walk g l = record {
  fits : length l.stack.items < g.row.N;
  walking : IsWalking (g.M.Segments.segments l.message) l.limits (l.stack.items ++ l.run ∷ []) l.report
      (g.T.Turn.knows l.turn (g.M.Segments.segments l.message));
}

abbrev pub decreases-walk : goal.decreases-walk
decreases-walk g l = work_left (words_of l.limits) (l.stack.items ++ l.run ∷ []) l.report
