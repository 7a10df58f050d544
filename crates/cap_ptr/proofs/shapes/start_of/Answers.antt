use Rattle.std.proofs.Common.{rules}
use Rattle.cap_ptr.proofs.shapes.start_of.Goals as goal

pub returns-else-start-lt0-clause-some : goal.returns-else-start-lt0-clause-some
returns-else-start-lt0-clause-some c = search rules
