-- The number is that of the one answer.
use Rattle.std.proofs.Common.{ap, inl, inr, ◌∙◌}
use Rattle.cap_calls.specs.AnswerNumbers.{answer_number}
use Rattle.capvet_c.proofs.capvet_vet_exclusive.Goals as goal

pub returns-clause-only : goal.returns-clause-only
returns-clause-only c = λ a n r h. let same = c.vet_exclusive.ensures.only a n r h in (c.number.ensures ∙ ap answer_number same.0, same.1, same.2)

pub returns-clause-kept : goal.returns-clause-kept
returns-clause-kept c =
    elim c.vet_exclusive.ensures.kept [
      | inl good ↦ inl (c.number.ensures ∙ ap answer_number good)
      | inr other ↦ elim other [ inl overlap ↦ inr (inl (c.number.ensures ∙ ap answer_number overlap)) | inr kept ↦ inr (inr kept) ]
    ]
