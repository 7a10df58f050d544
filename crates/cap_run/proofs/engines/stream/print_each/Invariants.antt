use Rattle.std.proofs.Common.{◌≡◌}
use Rattle.cap_frame.specs.Limit.{limit_of}
use Rattle.cap_run.proofs.Going.{Going}
use Rattle.cap_run.proofs.engines.stream.print_each.Given as goal

abbrev pub invariant-loop-number : goal.invariant-loop-number
invariant-loop-number g l =
    Going g.S.WordSource g.O.ByteOut (g.E.Engine.counts l.engine) (g.E.Engine.reports l.engine) (limit_of l.settings.size)
    l.initial.source l.source l.initial.out l.out l.outcome l.number l.before × (l.at.packed ≡ l.initial.at.packed)
