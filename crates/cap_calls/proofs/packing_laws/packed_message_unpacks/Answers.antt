use Rattle.cap_calls.proofs.PackedFrames.{frame_unpacks}
use Rattle.cap_calls.proofs.packing_laws.packed_message_unpacks.Goals as goal

pub returns : goal.returns
returns c = frame_unpacks
