use Rattle.cap_spec.proofs.Frames.FrameTexts.{one_stream}
use Rattle.cap_laws.proofs.framing.one_stream.Goals as goal

pub returns : goal.returns
returns c = one_stream
