-- The number is that of the one answer.
use Rattle.std.proofs.Common.{ap, rules, sym, ◌∙◌, ◌≡◌}
use Rattle.cap_calls.specs.AnswerNumbers.{answer_number}
use Rattle.cap_calls.specs.declared.answer.Answer.{Answer}
use Rattle.cap_calls.specs.declared.answer.Answer.TheVariants.{Good}
use Rattle.capvet_c.proofs.capvet_segments.Goals as goal

-- only one answer has this number
is_good : (a : Answer) → answer_number a ≡ 0 → a ≡ Good
is_good a e = search rules

pub returns-clause-reports : goal.returns-clause-reports
returns-clause-reports c = (c.segments.result, c.segments.ensures.reports, c.number.ensures)

pub returns-clause-only : goal.returns-clause-only
returns-clause-only c = λ a n new r h.
    let same = c.segments.ensures.only a n new r h in (c.number.ensures ∙ ap answer_number same.0, same.1, same.2, same.3)

pub returns-clause-words : goal.returns-clause-words
returns-clause-words c = λ good. c.segments.ensures.words (is_good c.segments.result (sym c.number.ensures ∙ good))
