use Rattle.cap_spec.proofs.ProofNames.{subst, ℕ}
use Rattle.cap_trace.specs.NamedPaths.{IsTraced}
use Rattle.cap_walk.specs.Limits.{depth_of}
use Rattle.cap_run.specs.Differing.{number_by}
use Rattle.cap_run.proofs.Differing.{difference_named}
use Rattle.cap_run.proofs.engines.differing.find_difference.Goals as goal

pub returns : goal.returns
returns g c = λ words a h.
    let m = g.M.Segments.segments c.args.message.now in
    let d = c.args.difference.now in
    let numbered = subst (λ (n : ℕ). IsTraced m (depth_of c.greatest_limits.result) n c.find.new.self) c.number_of.ensures c.find.ensures.traced in
    difference_named m words d c.find.new.self a
    (subst (λ (depth : ℕ). IsTraced m depth (number_by d.reason d.pointers) c.find.new.self) c.greatest_limits.ensures numbered) h
