use Rattle.cap_spec.proofs.Paths.Preorder.{Before-irreflexive, Before-longer, Before-total_coming, Before-trans}
use Rattle.cap_laws.proofs.paths.preorder_is_a_strict_total_order.Goals as goal

pub returns-clause-irreflexive : goal.returns-clause-irreflexive
returns-clause-irreflexive c = Before-irreflexive

pub returns-clause-transitive : goal.returns-clause-transitive
returns-clause-transitive c = Before-trans

pub returns-clause-total : goal.returns-clause-total
returns-clause-total c = Before-total_coming

pub returns-clause-beginning_first : goal.returns-clause-beginning_first
returns-clause-beginning_first c = Before-longer
