use Rattle.std.proofs.Common.{drop, map, take, ◌++◌, ◌≡◌}
use Rattle.cap_trace.specs.TraceNames.{path_of}
use Rattle.cap_trace.proofs.tracing.write_path.Given as goal

abbrev pub invariant-steps : goal.invariant-steps
invariant-steps g l = l.steps ≡ map g.S.StepSlot.slot (path_of (take l.at l.branches)) ++ drop l.at l.fn.steps
