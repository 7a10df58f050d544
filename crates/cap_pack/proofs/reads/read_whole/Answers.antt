use Rattle.std.proofs.Common.{rules}
use Rattle.cap_pack.proofs.reads.read_whole.Goals as goal

pub returns-in-Ok-2-clause-truncated : goal.returns-in-Ok-2-clause-truncated
returns-in-Ok-2-clause-truncated g c = search rules
