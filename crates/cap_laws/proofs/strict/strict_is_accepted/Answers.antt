use Rattle.cap_spec.proofs.Lemmas.{strict_wider, within_not_refused}
use Rattle.cap_laws.proofs.strict.strict_is_accepted.Goals as goal

pub returns-clause-tree : goal.returns-clause-tree
returns-clause-tree c = λ m words depth h. h.accepted

pub returns-clause-not_refused : goal.returns-clause-not_refused
returns-clause-not_refused c = λ m words depth refusal h. within_not_refused m words depth refusal h.accepted

pub returns-clause-wider : goal.returns-clause-wider
returns-clause-wider c = strict_wider
