use Rattle.std.proofs.Common.{sym}
use Rattle.cap_frame.proofs.Cuts.{cut_length}
use Rattle.cap_frame.proofs.byte_message.ByteViewSegments.count.Goals as goal

pub returns : goal.returns
returns c = sym (cut_length c.args.self.now.sizes.now c.args.self.now.bytes.now)
