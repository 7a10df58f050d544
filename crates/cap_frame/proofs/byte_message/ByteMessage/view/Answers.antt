use Rattle.std.proofs.Common.{rules}
use Rattle.cap_frame.proofs.byte_message.ByteMessage.view.Goals as goal

pub returns : goal.returns
returns c = search rules
