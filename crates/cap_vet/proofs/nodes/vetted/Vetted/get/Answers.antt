use Rattle.cap_spec.proofs.Paths.Arrivals.{coming_to_node}
use Rattle.cap_spec.proofs.ProofNames.{arith, get_or, length, subst, take, take_all, ◌<◌, split_at, take_more}
use Rattle.cap_spec.proofs.ProofNames.{Spot, StepsTo, rules}
use Rattle.cap_vet.specs.VetNames.{Ptr, message_of, node_spot}
use Rattle.cap_vet.proofs.NodeSteps.{comes_no_node, comes_on, no_node}
use Rattle.cap_vet.proofs.nodes.vetted.Vetted.get.Goals as goal

pub returns-in-None-clause-none : goal.returns-in-None-clause-none
returns-in-None-clause-none g c =
    let path = c.args.path.now in
    let i = c.loop-step.step-index in
    let none = subst (λ u. (b : Spot) → StepsTo (g.M.Segments.segments u) (node_spot c.loop-step.node)
    (get_or path i (Ptr 0)) b → ⊥) c.loop-step.invariant.0 c.in-None.ensures.none in
    let lt : i < length path = omega (arith, c.loop-step-test.true) in
    comes_no_node _ (take i path) _ _ _ (split_at path i (Ptr 0) lt) c.loop-step.invariant.1.1 none

pub loop-step-preserved : goal.loop-step-preserved
loop-step-preserved g c =
    let path = c.args.path.now in
    let i = c.loop-step.step-index in
    let goes = subst (λ u. StepsTo (g.M.Segments.segments u) (node_spot c.loop-step.node) (get_or path i (Ptr 0))
    (node_spot c.in-Some.child)) c.loop-step.invariant.0 c.in-Some.ensures.some in
    let r = comes_on _ (take i path) (get_or path i (Ptr 0)) _ _ _ c.loop-step.invariant.1.1 goes in
    search (rules, message_of, take_more)

pub returns-clause-node : goal.returns-clause-node
returns-clause-node g c = λ t x d h.
    let whole = take_all c.loop-step.step-index c.args.path.now (omega (arith, c.loop-step-test.false)) in
    coming_to_node _ t x d h c.args.path.now c.loop-step.invariant.1.0 _ (search (rules, message_of))

pub returns-in-None-clause-node : goal.returns-in-None-clause-node
returns-in-None-clause-node g c = λ t x d h. no_node _ c.args.path.now t x d (returns-in-None-clause-none g c) h

pub returns-clause-some : goal.returns-clause-some
returns-clause-some g c =
    let whole = take_all c.loop-step.step-index c.args.path.now (omega (arith, c.loop-step-test.false)) in
    search (rules, message_of)
