-- The number is that of the one answer.
use Rattle.std.proofs.Common.{ap, ◌∙◌}
use Rattle.cap_calls.specs.AnswerNumbers.{answer_number}
use Rattle.capvet_c.proofs.capvet_first_difference.Goals as goal

pub returns-clause-only : goal.returns-clause-only
returns-clause-only c = λ a r h. let same = c.first_difference.ensures.only a r h in (c.number.ensures ∙ ap answer_number same.0, same.1)

pub returns-clause-reports : goal.returns-clause-reports
returns-clause-reports c = (c.first_difference.result, c.first_difference.ensures.reports, c.number.ensures)
