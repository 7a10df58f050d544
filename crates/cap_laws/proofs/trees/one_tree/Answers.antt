use Rattle.std.proofs.Common.{refl}
use Rattle.cap_spec.proofs.Trees.OneTree.{one_each, one_elements, one_tree}
use Rattle.cap_laws.proofs.trees.one_tree.Goals as goal

pub returns-clause-word : goal.returns-clause-word
returns-clause-word c = λ m s w t t' x d x' d' h h'. let e = one_tree m s w t t' x d x' d' h h' in
    (e.part, e.charge, e.depth)

pub returns-clause-words : goal.returns-clause-words
returns-clause-words c = λ m ps ts ts' x d x' d' h h'. let e = one_each m ps ps refl ts ts' x d x' d' h h' in
    (e.part, e.charge, e.depth)

pub returns-clause-elements : goal.returns-clause-elements
returns-clause-elements c = λ m t b ds ps n es es' x d x' d' h h'.
    let e = one_elements m t b ds ps n n refl es es' x d x' d' h h' in (e.part, e.charge, e.depth)
