use Rattle.std.proofs.Common.{rules}
use Rattle.cap_run.proofs.engines.stream.count.Goals as goal

pub returns-in-Accepted : goal.returns-in-Accepted
returns-in-Accepted c = rw c.in-Accepted.is (search rules)

pub returns-in-Refused : goal.returns-in-Refused
returns-in-Refused c = rw c.in-Refused.is (search rules)

pub returns-in-NotCanonical : goal.returns-in-NotCanonical
returns-in-NotCanonical c = rw c.in-NotCanonical.is (search rules)
