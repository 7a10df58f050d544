use Rattle.std.proofs.Common.{rules}
use Rattle.cap_words.proofs.from_write.FromWriteByteOut.write.Goals as goal

pub returns-in_default : goal.returns-in_default
returns-in_default g c = search rules

pub returns-in-Ok-clause-some : goal.returns-in-Ok-clause-some
returns-in-Ok-clause-some g c = search rules
