use Rattle.std.proofs.Common.{rules}
use Rattle.cap_canon.proofs.Agreeing.{agrees_all}
use Rattle.cap_canon.proofs.CopyWalks.{root_agrees}
use Rattle.cap_canon.proofs.copying.copy_into.Goals as goal

pub walk-words-requires-clause-start : goal.walk-words-requires-clause-start
walk-words-requires-clause-start g c = search (rules, root_agrees)

pub returns-clause-words : goal.returns-clause-words
returns-clause-words g c = search (rules, agrees_all)
