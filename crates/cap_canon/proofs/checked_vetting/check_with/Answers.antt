use Rattle.std.proofs.Common.{Err, ap, rules}
use Rattle.cap_spec.specs.declared.StrictRefusal.TheVariants.{Refused}
use Rattle.cap_spec.proofs.Verdicts.Refusals.{within_not_refused}
use Rattle.cap_vet.specs.VetNames.{words_of}
use Rattle.cap_vet.proofs.Demanding.{one_demand_fault, strict_meets}
use Rattle.cap_canon.proofs.checked_vetting.check_with.Goals as goal

pub returns-in-Ok-clause-refuses : goal.returns-in-Ok-clause-refuses
returns-in-Ok-clause-refuses g c = λ r h. absurd
    (strict_meets c.args.demands (g.M.Segments.segments c.args.message.now) (words_of c.args.limits) _ _ _
    c.limits_under.ensures.words c.limits_under.ensures.depth r c.in-Ok.ensures.ok.1 h)

pub returns-in-Err-Refused-clause-accepts : goal.returns-in-Err-Refused-clause-accepts
returns-in-Err-Refused-clause-accepts g c = search (rules, within_not_refused)

pub returns-in-Err-Refused-clause-refuses : goal.returns-in-Err-Refused-clause-refuses
returns-in-Err-Refused-clause-refuses g c = λ r h.
    let refused = rw c.in-Err-Refused.field-0-is at c.in-Err-Refused.ensures.err in
    ap Err (one_demand_fault c.args.demands (g.M.Segments.segments c.args.message.now) (words_of c.args.limits) _ _ _
    c.limits_under.ensures.words c.limits_under.ensures.depth (Refused c.in-Err-Refused.refusal) r refused h)
