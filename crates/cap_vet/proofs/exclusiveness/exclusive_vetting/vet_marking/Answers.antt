use Rattle.cap_spec.proofs.ProofNames.{rules, IsMessage}
use Rattle.cap_walk.specs.Limits.{words_of}
use Rattle.cap_vet.proofs.Demanding.{demand_fault_at_end, met_at_end}
use Rattle.cap_vet.proofs.MarkingWalk.{ends_marking}
use Rattle.cap_walk.proofs.Verdicts.{vetted_within}
use Rattle.cap_vet.proofs.exclusiveness.exclusive_vetting.vet_marking.Goals as goal

pub returns-in-None-clause-ok : goal.returns-in-None-clause-ok
returns-in-None-clause-ok g c =
    let a = c.in-Ok.ensures.ok.0 in
    let (seen, t, known) = c.in-Ok.ensures.ok.1 in (
      met_at_end c.args.demands _ (words_of c.args.limits) _ _ _ c.limits_under-within.ensures.words
          c.limits_under-within.ensures.depth seen _ a t known.1 c.in-None.ensures.none,
      ends_marking _ seen _ t known.0,
    )

pub returns-in-Some-clause-err : goal.returns-in-Some-clause-err
returns-in-Some-clause-err g c =
    let m = g.M.Segments.segments c.args.message.now in
    let message : IsMessage m = search rules in
    let a = c.in-Ok.ensures.ok.0 in
    let (seen, t, known) = c.in-Ok.ensures.ok.1 in
    search (rules, demand_fault_at_end)

pub invariant_of-result : goal.invariant_of-result
invariant_of-result g c =
    record { accepted = ∣ vetted_within _ c.limits_under-within.result _ c.in-Ok.ensures.ok.0 ∣₁ }
