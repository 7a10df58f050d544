use Rattle.cap_spec.proofs.Canonical.Trimming.{trim-trim}
use Rattle.cap_spec.proofs.ProofNames.{ap, layout}
use Rattle.cap_laws.proofs.canonical.trimmed_once_is_enough.Goals as goal

pub returns-clause-tree : goal.returns-clause-tree
returns-clause-tree c = trim-trim

pub returns-clause-words : goal.returns-clause-words
returns-clause-words c = λ t. ap layout (trim-trim t)
