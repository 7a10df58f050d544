use Rattle.cap_spec.specs.declared.StrictRefusal.TheVariants.{Refused}
use Rattle.cap_walk.specs.Limits.{words_of}
use Rattle.cap_vet.proofs.Demanding.{fault_demanded, one_demand_fault, strict_meets}
use Rattle.cap_vet.proofs.demanded_vetting.vet_with.Goals as goal
use Rattle.cap_spec.proofs.ProofNames.{rules, Err, ap}

pub returns-in-Ok-clause-refuses : goal.returns-in-Ok-clause-refuses
returns-in-Ok-clause-refuses g c = λ r h. absurd (search (rules, strict_meets))

pub returns-in-Err : goal.returns-in-Err
returns-in-Err g c = search (rules, fault_demanded, one_demand_fault)

pub returns-in-Err-vet-clause-refuses : goal.returns-in-Err-vet-clause-refuses
returns-in-Err-vet-clause-refuses g c = λ r h. ap Err
    (one_demand_fault c.args.demands (g.M.Segments.segments c.args.message.now) (words_of c.args.limits) _ _ _
    c.limits_under-limits.ensures.words c.limits_under-limits.ensures.depth
    (Refused c.in-Err-vet.refusal) r c.in-Err-vet.ensures.err h)
