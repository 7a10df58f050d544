use Rattle.cap_difference.proofs.Copied.{first_searched}
use Rattle.std.proofs.Common.{rules}
use Rattle.cap_difference.proofs.difference.DifferenceSearchFirstTurn.begin.Goals as goal

pub returns-clause-ok : goal.returns-clause-ok
returns-clause-ok g c = search (rules, first_searched)
