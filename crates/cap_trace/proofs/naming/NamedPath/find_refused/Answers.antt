use Rattle.cap_walk.specs.Limits.{depth_of}
use Rattle.cap_trace.proofs.Named.{path_named}
use Rattle.cap_trace.proofs.naming.NamedPath.find_refused.Goals as goal

pub returns : goal.returns
returns g c = λ demands words h.
    path_named demands _ words (depth_of c.args.limits) _ _ c.args.refusal.now c.number_of.ensures
    c.find.ensures.traced c.find.ensures.fault c.find.ensures.lax h
