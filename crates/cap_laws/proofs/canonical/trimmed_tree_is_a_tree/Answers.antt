use Rattle.cap_spec.proofs.Canonical.TrimmedTrees.{has_cap-trim, trimmed_is_tree}
use Rattle.cap_laws.proofs.canonical.trimmed_tree_is_a_tree.Goals as goal

pub returns-clause-tree : goal.returns-clause-tree
returns-clause-tree c = trimmed_is_tree

pub returns-clause-caps : goal.returns-clause-caps
returns-clause-caps c = has_cap-trim
