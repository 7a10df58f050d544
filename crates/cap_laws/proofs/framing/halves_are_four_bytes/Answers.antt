use Rattle.cap_spec.proofs.Frames.FrameTexts.{plain_halves}
use Rattle.cap_laws.proofs.framing.halves_are_four_bytes.Goals as goal

pub returns : goal.returns
returns c = plain_halves
