-- The path is followed by looks alone.
use Rattle.cap_spec.proofs.ProofNames.{List, [], ap, append_assoc, arith, sym, ◌++◌, ◌∙◌, ◌∷◌, rules, common_steps}
use Rattle.cap_vet.specs.VetNames.{Step}
use Rattle.cap_vet.proofs.GivenPaths.{done_steps}
use Rattle.cap_vet.proofs.AtSomePlace.{arrival_few, arrival_levels}
use Rattle.cap_vet.proofs.StepsGiven.{no_step_given, step_given}
use Rattle.cap_vet.proofs.nodes.getting.follow_near.Goals as goal
use Rattle.cap_vet.specs.PathEnds.{SomeArrives}

pub step_near-requires : goal.step_near-requires
step_near-requires g c =
    let h = c.loop-step.invariant in
    let at : SomeArrives _ c.args.words c.args.depth c.loop-step.at = ∣ (h.0, h.1.0, h.1.1) ∣₁ in
    search (rules, arrival_levels _ _ _ c.loop-step.at at, arrival_few _ _ _ c.loop-step.at at)

pub loop-step-preserved : goal.loop-step-preserved
loop-step-preserved g c =
    let h = c.loop-step.invariant in
    let step = c.in-Some.step in (
      h.0 ++ step ∷ [],
      c.in-Some-step_near.ensures.on h.0 h.1.0 h.1.1,
      λ steps left.
          let k = h.2 steps left in
          let n = step_given g.S.StepSource.gives c.loop-step.left c.next_step.new.self c.next_step.result step k.0 c.in-Some.is
          c.next_step.ensures.some c.next_step.ensures.none k.2 in
          (n.0, k.1 ∙ ap (λ (ss : List Step). h.0 ++ ss) n.1 ∙ sym (append_assoc h.0 (step ∷ []) n.0), n.2),
      c.in-Some-step_near.ensures.strict,
    )

pub returns-clause-end : goal.returns-clause-end
returns-clause-end g c = λ steps left.
    let h = c.loop-step.invariant in
    let k = h.2 steps left in
    let none = no_step_given g.S.StepSource.gives c.loop-step.left c.next_step.new.self c.next_step.result k.0 c.in_default.is c.next_step.ensures.some k.2 in
    let at = c.loop-step.at in
    search (rules, done_steps)

pub returns-clause-leads : goal.returns-clause-leads
returns-clause-leads g c = grind (arith, common_steps)
