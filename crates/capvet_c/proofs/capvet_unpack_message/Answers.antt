-- The number is that of the one answer.
use Rattle.std.proofs.Common.{ap, ◌∙◌}
use Rattle.cap_calls.specs.AnswerNumbers.{answer_number}
use Rattle.capvet_c.proofs.capvet_unpack_message.Goals as goal

pub returns-clause-only : goal.returns-clause-only
returns-clause-only c = λ u h.
    let same = c.unpack_message.ensures.only u h in
    (c.number.ensures ∙ ap answer_number same.0, same.1)

pub returns-clause-reports : goal.returns-clause-reports
returns-clause-reports c = (c.unpack_message.result, c.unpack_message.ensures.reports, c.number.ensures)
