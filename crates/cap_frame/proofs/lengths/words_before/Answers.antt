use Rattle.cap_spec.proofs.ProofNames.{rules}
use Rattle.cap_frame.proofs.SegmentStarts.{start_next}
use Rattle.cap_frame.proofs.lengths.words_before.Goals as goal

pub loop-s-preserved : goal.loop-s-preserved
loop-s-preserved g c = search (rules, start_next)
