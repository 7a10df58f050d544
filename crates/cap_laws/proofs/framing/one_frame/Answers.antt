use Rattle.cap_spec.proofs.Frames.Framing.{one_frame}
use Rattle.cap_laws.proofs.framing.one_frame.Goals as goal

pub returns : goal.returns
returns c = one_frame
