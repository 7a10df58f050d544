-- The number is that of the one answer.
use Rattle.std.proofs.Common.{ap, ◌∙◌}
use Rattle.cap_calls.specs.AnswerNumbers.{answer_number}
use Rattle.capvet_c.proofs.capvet_check_canonical.Goals as goal

pub returns-clause-only : goal.returns-clause-only
returns-clause-only c = λ a r h. let same = c.check_canonical.ensures.only a r h in (c.number.ensures ∙ ap answer_number same.0, same.1)

pub returns-clause-reports : goal.returns-clause-reports
returns-clause-reports c = (c.check_canonical.result, c.check_canonical.ensures.reports, c.number.ensures)
