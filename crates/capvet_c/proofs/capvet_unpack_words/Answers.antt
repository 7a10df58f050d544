-- The number is that of the one answer.
use Rattle.std.proofs.Common.{ap, ◌∙◌}
use Rattle.cap_calls.specs.AnswerNumbers.{answer_number}
use Rattle.capvet_c.proofs.capvet_unpack_words.Goals as goal

pub returns-clause-only : goal.returns-clause-only
returns-clause-only c = λ a n new h. let same = c.unpack.ensures.only a n new h in (c.number.ensures ∙ ap answer_number same.0, same.1, same.2)

pub returns-clause-reports : goal.returns-clause-reports
returns-clause-reports c = (c.unpack.result, c.unpack.ensures.reports, c.number.ensures)
