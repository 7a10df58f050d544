use Rattle.cap_spec.proofs.Frames.FrameTexts.{frame_text_frames, frame_text_zero, zero_frame_is_text}
use Rattle.cap_spec.proofs.ProofNames.{subst, sym, FramesZero}
use Rattle.cap_laws.proofs.framing.frame_text_frames.Goals as goal

pub returns-clause-frames : goal.returns-clause-frames
returns-clause-frames c = frame_text_frames

pub returns-clause-zero_padding : goal.returns-clause-zero_padding
returns-clause-zero_padding c = λ m words is.
    (zero_frame_is_text words m is, λ e. subst (λ ws. FramesZero ws m) (sym e) (frame_text_zero m is))
