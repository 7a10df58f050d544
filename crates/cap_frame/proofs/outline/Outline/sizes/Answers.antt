use Rattle.std.proofs.Common.{rules}
use Rattle.cap_frame.proofs.outline.Outline.sizes.Goals as goal

pub returns : goal.returns
returns c = search rules
