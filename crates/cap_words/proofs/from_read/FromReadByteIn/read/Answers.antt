use Rattle.std.proofs.Common.{rules}
use Rattle.cap_words.proofs.Known.{known_consumes, known_end}
use Rattle.cap_words.proofs.from_read.FromReadByteIn.read.Goals as goal

pub returns-in-Ok-clause-bytes : goal.returns-in-Ok-clause-bytes
returns-in-Ok-clause-bytes g c = search (rules, known_consumes, known_end)

pub returns-in-Err-clause-device : goal.returns-in-Err-clause-device
returns-in-Err-clause-device g c = search rules
