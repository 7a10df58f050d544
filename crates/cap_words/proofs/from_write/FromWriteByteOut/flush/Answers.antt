use Rattle.std.proofs.Common.{rules}
use Rattle.cap_words.proofs.from_write.FromWriteByteOut.flush.Goals as goal

pub returns-clause-ok : goal.returns-clause-ok
returns-clause-ok g c = search rules
