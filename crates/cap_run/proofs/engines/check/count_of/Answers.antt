use Rattle.cap_run.proofs.engines.check.count_of.Goals as goal

pub returns-else-canonical : goal.returns-else-canonical
returns-else-canonical c = rw c.if-canonical.false
