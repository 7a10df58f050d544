use Rattle.std.proofs.Common.{rules}
use Rattle.cap_frame.proofs.outline.Outline.clear.Goals as goal

pub returns-clause-root : goal.returns-clause-root
returns-clause-root c = search rules
