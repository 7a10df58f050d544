-- The path is followed step by step.
use Rattle.std.proofs.Math.Logic.{∥∥₁_map}
use Rattle.cap_vet.specs.VetNames.{Step, Arrives}
use Rattle.cap_vet.proofs.GivenPaths.{all_steps, done_steps, step_no_node, step_refused}
use Rattle.cap_vet.proofs.AtSomePlace.{arrival_few, arrival_levels}
use Rattle.cap_vet.proofs.StepsGiven.{no_step_given, step_given}
use Rattle.cap_vet.proofs.nodes.getting.along.Goals as goal
use Rattle.cap_spec.proofs.ProofNames.{rules, List, [], ap, append-nil, append_assoc, refl, subst, sym, ◌++◌, ◌∙◌}
use Rattle.cap_spec.proofs.ProofNames.{◌∷◌}
use Rattle.cap_vet.specs.PathEnds.{SomeArrives}

pub loop-step-init : goal.loop-step-init
loop-step-init g c =
    let m = g.M.Segments.segments c.args.message.now in (
      [],
      λ first a h. (a, subst (λ (ss : List Step). Arrives m c.args.words c.args.depth ss a c.args.from) (sym (append-nil first)) h),
      λ steps left. (steps, refl, left),
    )

pub step-requires : goal.step-requires
step-requires g c =
    let h = c.loop-step.invariant in
    let at : SomeArrives _ c.args.words c.args.depth c.loop-step.at =
    ∥∥₁_map c.requires.arrived (λ r. let x = h.1 r.0 r.1 r.2 in (r.0 ++ h.0, x.0, x.1)) in
    search (rules, arrival_levels _ _ _ c.loop-step.at at, arrival_few _ _ _ c.loop-step.at at)

pub loop-step-preserved : goal.loop-step-preserved
loop-step-preserved g c =
    let m = g.M.Segments.segments c.args.message.now in
    let h = c.loop-step.invariant in
    let step = c.in-Some.step in (
      h.0 ++ step ∷ [],
      λ first a arrives.
          let x = h.1 first a arrives in
          let r = rw c.in-Ok-Some.field-0-is at (c.in-Ok-Some.ensures.some (first ++ h.0) x.0 x.1) in
          (r.0, subst (λ (ss : List Step). Arrives m c.args.words c.args.depth ss r.0 c.in-Ok-Some.next) (append_assoc first h.0 (step ∷ [])) r.1),
      λ steps left.
          let k = h.2 steps left in
          let n = step_given g.S.StepSource.gives c.loop-step.left c.next_step.new.self c.next_step.result step k.0 c.in-Some.is
          c.next_step.ensures.some c.next_step.ensures.none k.2 in
          (n.0, k.1 ∙ ap (λ (ss : List Step). h.0 ++ ss) n.1 ∙ sym (append_assoc h.0 (step ∷ []) n.0), n.2),
    )

pub returns-in-Ok-None-clause-end : goal.returns-in-Ok-None-clause-end
returns-in-Ok-None-clause-end g c = λ first steps a arrives left.
    let h = c.loop-step.invariant in
    let step = c.in-Some.step in
    let x = h.1 first a arrives in
    let k = h.2 steps left in
    let n = step_given g.S.StepSource.gives c.loop-step.left c.next_step.new.self c.next_step.result step k.0 c.in-Some.is
    c.next_step.ensures.some c.next_step.ensures.none k.2 in
    let none = rw c.in-Ok-None.field-0-is at (c.in-Ok-None.ensures.none (first ++ h.0) x.0 x.1) in
    search (rules, all_steps, step_no_node)

pub returns-in-Err-clause-end : goal.returns-in-Err-clause-end
returns-in-Err-clause-end g c = λ first steps a arrives left.
    let h = c.loop-step.invariant in
    let step = c.in-Some.step in
    let x = h.1 first a arrives in
    let k = h.2 steps left in
    let n = step_given g.S.StepSource.gives c.loop-step.left c.next_step.new.self c.next_step.result step k.0 c.in-Some.is
    c.next_step.ensures.some c.next_step.ensures.none k.2 in
    rw (← all_steps first h.0 steps k.0 n.0 step k.1 n.1)
    (step_refused (first ++ h.0) n.0 step (c.in-Err.ensures.err (first ++ h.0) x.0 x.1))

pub returns-clause-end : goal.returns-clause-end
returns-clause-end g c = λ first steps a arrives left.
    let h = c.loop-step.invariant in
    let x = h.1 first a arrives in
    let k = h.2 steps left in
    let none = no_step_given g.S.StepSource.gives c.loop-step.left c.next_step.new.self c.next_step.result k.0 c.in_default.is c.next_step.ensures.some k.2 in
    search (rules, done_steps)

pub returns-clause-leads : goal.returns-clause-leads
returns-clause-leads g c =
    ∥∥₁_map c.requires.arrived (λ r. (r.0 ++ c.loop-step.invariant.0, c.loop-step.invariant.1 r.0 r.1 r.2))

pub returns-in-Ok-None-clause-leads : goal.returns-in-Ok-None-clause-leads
returns-in-Ok-None-clause-leads g c =
    let h = c.loop-step.invariant in
    ∥∥₁_map c.requires.arrived (λ r.
    let x = h.1 r.0 r.1 r.2 in
    let none = rw c.in-Ok-None.field-0-is at (c.in-Ok-None.ensures.none (r.0 ++ h.0) x.0 x.1) in
    ((r.0 ++ h.0) ++ _ ∷ [], step_no_node _ c.args.words c.args.depth (r.0 ++ h.0) [] _ x.0 c.loop-step.at x.1 none))

pub returns-in-Err-clause-leads : goal.returns-in-Err-clause-leads
returns-in-Err-clause-leads g c =
    let h = c.loop-step.invariant in
    let step = c.in-Some.step in
    ∥∥₁_map c.requires.arrived (λ r.
    let x = h.1 r.0 r.1 r.2 in (
      (r.0 ++ h.0) ++ step ∷ [],
      step_refused (r.0 ++ h.0) [] step (c.in-Err.ensures.err (r.0 ++ h.0) x.0 x.1),
    ))
