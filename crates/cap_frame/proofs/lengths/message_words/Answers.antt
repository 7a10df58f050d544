use Rattle.cap_spec.proofs.ProofNames.{rules}
use Rattle.cap_frame.proofs.SegmentStarts.{all_words}
use Rattle.cap_frame.proofs.lengths.message_words.Goals as goal

pub returns-clause-exact : goal.returns-clause-exact
returns-clause-exact g c = search (rules, all_words)
