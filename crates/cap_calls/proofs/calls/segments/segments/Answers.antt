-- Nothing else is reported of the bytes and the capacity.
use Rattle.std.proofs.Common.{refl}
use Rattle.cap_calls.proofs.Extents.{extents_are_words, few_extents, not_whole, one_extents_reported}
use Rattle.cap_calls.proofs.calls.segments.segments.Goals as goal

pub returns-clause-reports : goal.returns-clause-reports
returns-clause-reports c =
    (c.over-found.result, not_whole c.args.limits.now c.args.bytes.now c.over-found.result c.over-found.ensures, (refl, refl), refl)

pub returns-clause-only : goal.returns-clause-only
returns-clause-only c = λ a n new r h.
    one_extents_reported c.args.limits.now c.args.bytes.now c.args.extents.now _ a _ n _ new _ r (returns-clause-reports c) h

pub returns-clause-words : goal.returns-clause-words
returns-clause-words c = λ good.
    extents_are_words c.args.limits.now c.args.bytes.now c.args.extents.now _ _ _ _ (returns-clause-reports c) good

pub returns-clause-few : goal.returns-clause-few
returns-clause-few c =
    few_extents c.args.limits.now c.args.bytes.now c.args.extents.now _ c.over-found.result
    (not_whole c.args.limits.now c.args.bytes.now c.over-found.result c.over-found.ensures)
