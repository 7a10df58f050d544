use Rattle.cap_spec.proofs.ProofNames.{rules}
use Rattle.cap_frame.proofs.SegmentStarts.{all_words}
use Rattle.cap_vet.proofs.exclusiveness.marks.numbers_for.Goals as goal

pub returns-clause-enough : goal.returns-clause-enough
returns-clause-enough g c = search (rules, all_words)
