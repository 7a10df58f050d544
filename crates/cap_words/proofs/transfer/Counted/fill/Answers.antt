use Rattle.std.proofs.Common.{rules}
use Rattle.cap_words.proofs.transfer.Counted.fill.Goals as goal

pub returns-in-Some-clause-reads : goal.returns-in-Some-clause-reads
returns-in-Some-clause-reads g c = search rules
