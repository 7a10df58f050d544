-- The text is read to its end, or to the byte where it is bad.
use Rattle.cap_spec.proofs.ProofNames.{rules}
use Rattle.cap_path.proofs.ReadSteps.{are-snoc, texts-snoc}
use Rattle.cap_path.proofs.steps.read_path.Goals as goal

pub loop-at-preserved : goal.loop-at-preserved
loop-at-preserved c = search (rules, are-snoc, texts-snoc)
