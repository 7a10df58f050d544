use Rattle.std.proofs.Common.{arith, length, ◌≤◌}
use Rattle.cap_walk.specs.Limits.{depth_of}
use Rattle.cap_trace.proofs.Named.{path_taken, traced_taken}
use Rattle.cap_trace.proofs.naming.NamedPath.find.Goals as goal

pub returns-clause-traced : goal.returns-clause-traced
returns-clause-traced g c =
    let most : depth_of c.args.limits ≤ length c.self.inside.steps = omega (arith, c.args.limits.shallow) in
    traced_taken _ _ _ c.self.inside.steps _ _ c.path_of_pointer-count.ensures.few most c.path_of_pointer-count.ensures.reports

pub returns-clause-fault : goal.returns-clause-fault
returns-clause-fault g c = λ words r f e.
    let most : depth_of c.args.limits ≤ length c.self.inside.steps = omega (arith, c.args.limits.shallow) in
    path_taken f.path c.self.inside.steps _ _ _ c.path_of_pointer-count.ensures.few most
    (c.path_of_pointer-count.ensures.fault words r f e)

pub returns-clause-lax : goal.returns-clause-lax
returns-clause-lax g c = λ words s w what a f.
    let most : depth_of c.args.limits ≤ length c.self.inside.steps = omega (arith, c.args.limits.shallow) in
    path_taken f.path c.self.inside.steps _ _ _ c.path_of_pointer-count.ensures.few most
    (c.path_of_pointer-count.ensures.lax words s w what a f)

pub returns-clause-overlap : goal.returns-clause-overlap
returns-clause-overlap g c = λ words s w a f.
    let most : depth_of c.args.limits ≤ length c.self.inside.steps = omega (arith, c.args.limits.shallow) in
    path_taken f.path c.self.inside.steps _ _ _ c.path_of_pointer-count.ensures.few most
    (c.path_of_pointer-count.ensures.overlap words s w a f)
