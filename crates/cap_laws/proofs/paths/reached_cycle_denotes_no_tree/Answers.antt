use Rattle.cap_spec.proofs.Paths.Cycles.{no_tree_above_cycle, no_tree_at_cycle}
use Rattle.cap_laws.proofs.paths.reached_cycle_denotes_no_tree.Goals as goal

pub returns-clause-root : goal.returns-clause-root
returns-clause-root c = no_tree_above_cycle

pub returns-clause-word : goal.returns-clause-word
returns-clause-word c = no_tree_at_cycle
