use Rattle.cap_spec.proofs.ProofNames.{rules}
use Rattle.cap_explain.proofs.RowSteps.{one_more_word}
use Rattle.cap_explain.proofs.rows.words_left.Goals as goal

pub returns-then-not-are_empty-clause-value : goal.returns-then-not-are_empty-clause-value
returns-then-not-are_empty-clause-value g c = search (rules, one_more_word)

pub loop-left-preserved : goal.loop-left-preserved
loop-left-preserved g c = search (rules, one_more_word)
