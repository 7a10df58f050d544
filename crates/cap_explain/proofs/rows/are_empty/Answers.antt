use Rattle.cap_spec.proofs.ProofNames.{rules}
use Rattle.cap_explain.proofs.RowSteps.{one_more_struct}
use Rattle.cap_explain.proofs.rows.are_empty.Goals as goal

pub returns-then-not-is_empty_in : goal.returns-then-not-is_empty_in
returns-then-not-is_empty_in g c = search (rules, one_more_struct)

pub loop-left-preserved : goal.loop-left-preserved
loop-left-preserved g c = search (rules, one_more_struct)
