-- The number is that of the one answer.
use Rattle.std.proofs.Common.{ap, ◌∙◌}
use Rattle.cap_calls.specs.AnswerNumbers.{answer_number}
use Rattle.capvet_c.proofs.capvet_get_range.Goals as goal

pub returns-clause-reports : goal.returns-clause-reports
returns-clause-reports c = (c.get_range.result, c.get_range.ensures.reports, c.number.ensures)

pub returns-clause-only : goal.returns-clause-only
returns-clause-only c = λ a n new r h.
    let same = c.get_range.ensures.only a n new r h in (c.number.ensures ∙ ap answer_number same.0, same.1, same.2, same.3)
