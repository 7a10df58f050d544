use Rattle.cap_spec.proofs.Trees.DenotedTrees.{denoted_is_tree}
use Rattle.cap_laws.proofs.trees.denoted_is_tree.Goals as goal

pub returns : goal.returns
returns c = λ m s w t x d a h. denoted_is_tree m a s w t x d h
