use Rattle.std.proofs.Common.{[], ◌++◌, ◌+◌, ◌-◌, ◌∷◌, ◌≡◌}
use Rattle.cap_canon.specs.CanonNames.{ForTrimmed, longest_copy, copy_work_left}
use Rattle.cap_canon.specs.AtRuns.{AtRun}
use Rattle.cap_canon.proofs.walk.walk_within.Given as goal

abbrev pub invariant-walk : goal.invariant-walk
invariant-walk g l = record {
  at : AtRun (g.M.Segments.segments l.message) (g.P.Pass.state l.pass) l.depth l.stack.items l.run l.end;
  kept : ForTrimmed (g.M.Segments.segments l.message) (λ u. g.P.Pass.kept l.pass u ≡ g.P.Pass.kept l.initial.pass u);
}

abbrev pub decreases-walk : goal.decreases-walk
decreases-walk g l = copy_work_left (l.stack.items ++ l.run ∷ []) + (longest_copy - l.end)
