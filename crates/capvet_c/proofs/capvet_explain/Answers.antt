-- The number is that of the one answer.
use Rattle.std.proofs.Common.{ap, ◌∙◌}
use Rattle.cap_calls.specs.AnswerNumbers.{answer_number}
use Rattle.capvet_c.proofs.capvet_explain.Goals as goal

pub returns-clause-vets : goal.returns-clause-vets
returns-clause-vets c = (c.explain.result, c.explain.ensures.vets, c.number.ensures)

pub returns-clause-reports : goal.returns-clause-reports
returns-clause-reports c = (c.explain.result, c.explain.ensures.reports, c.number.ensures)

pub returns-clause-only : goal.returns-clause-only
returns-clause-only c = λ a n new r h.
    let same = c.explain.ensures.only a n new r h in (c.number.ensures ∙ ap answer_number same.0, same.1, same.2, same.3)
