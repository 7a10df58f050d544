use Rattle.cap_spec.proofs.ProofNames.{Err, [], ap, append_assoc, arith, drop, get_or, inr, length, subst, suc, sym}
use Rattle.cap_spec.proofs.ProofNames.{take, take_all, ◌++◌, ◌<◌, ◌∙◌, ◌∷◌, ◌≡◌, split_at, take_more, AreOnPath}
use Rattle.cap_spec.proofs.ProofNames.{ReachesSpot, rules}
use Rattle.cap_spec.proofs.Verdicts.OnPath.{one_path_refusal, path_not_refused}
use Rattle.cap_vet.specs.VetNames.{Step, Ptr}
use Rattle.cap_vet.proofs.Charging.{arrives_no_node, charges_no_node, fault_longer}
use Rattle.cap_vet.proofs.nodes.charged.get_charged.Goals as goal

pub returns-in-Err-clause-accepts : goal.returns-in-Err-clause-accepts
returns-in-Err-clause-accepts g c = λ ways cost on some costs shallow within.
    absurd (path_not_refused _ _ _ c.args.path.now ways cost _ on some costs shallow within (c.in-Err.ensures.err c.args.path.now))

pub returns-in-Err-clause-refuses : goal.returns-in-Err-clause-refuses
returns-in-Err-clause-refuses g c = λ r refused. ap Err
    (one_path_refusal _ _ _ c.args.path.now c.in-Err.refusal r (c.in-Err.ensures.err c.args.path.now) refused)

pub returns-in-Ok-None-clause-ok : goal.returns-in-Ok-None-clause-ok
returns-in-Ok-None-clause-ok g c =
    let m = g.M.Segments.segments c.args.message.now in
    let path = c.args.path.now in
    let i = c.loop-step.step-index in
    let lt : i < length path = omega (arith, c.loop-step-test.true) in
    let h = c.loop-step.invariant.arrived in
    let none = rw c.in-Ok-None.field-0-is at (c.in-Ok-None.ensures.none (take i path) h.0 h.1) in
    charges_no_node _ _ (sym (split_at path i (Ptr 0) lt)) h.1 none

pub returns-in-Ok-None-clause-refuses : goal.returns-in-Ok-None-clause-refuses
returns-in-Ok-None-clause-refuses g c = λ r refused.
    (let k = returns-in-Ok-None-clause-ok g c in
    absurd (path_not_refused _ _ _ c.args.path.now _ _ r k.on_path k.some k.costs k.shallow (omega (arith, k.consumed)) refused))

pub returns-in-Ok-None-clause-none : goal.returns-in-Ok-None-clause-none
returns-in-Ok-None-clause-none g c =
    let m = g.M.Segments.segments c.args.message.now in
    let path = c.args.path.now in
    let i = c.loop-step.step-index in
    let lt : i < length path = omega (arith, c.loop-step-test.true) in
    let h = c.loop-step.invariant.arrived in
    let none = rw c.in-Ok-None.field-0-is at (c.in-Ok-None.ensures.none (take i path) h.0 h.1) in
    arrives_no_node _ _ (split_at path i (Ptr 0) lt) h.1 none

pub returns-in-Err-step-clause-err : goal.returns-in-Err-step-clause-err
returns-in-Err-step-clause-err g c =
    let m = g.M.Segments.segments c.args.message.now in
    let path = c.args.path.now in
    let i = c.loop-step.step-index in
    let step : Step = get_or path i (Ptr 0) in
    let lt : i < length path = omega (arith, c.loop-step-test.true) in
    let h = c.loop-step.invariant.arrived in
    let whole : (take i path ++ step ∷ []) ++ drop (suc i) path ≡ path = append_assoc (take i path) (step ∷ [])
    (drop (suc i) path) ∙ sym (split_at path i (Ptr 0) lt) in
    inr (fault_longer _ whole (c.in-Err-step.ensures.err (take i path) h.0 h.1))

pub returns-in-Err-step-clause-accepts : goal.returns-in-Err-step-clause-accepts
returns-in-Err-step-clause-accepts g c = λ ways cost on some costs shallow within.
    absurd (path_not_refused _ _ _ c.args.path.now ways cost _ on some costs shallow within (returns-in-Err-step-clause-err g c))

pub returns-in-Err-step-clause-refuses : goal.returns-in-Err-step-clause-refuses
returns-in-Err-step-clause-refuses g c = λ r refused. ap Err
    (one_path_refusal _ _ _ c.args.path.now c.in-Err-step.fault r (returns-in-Err-step-clause-err g c) refused)

pub loop-step-preserved : goal.loop-step-preserved
loop-step-preserved g c =
    let m = g.M.Segments.segments c.args.message.now in
    let path = c.args.path.now in
    let i = c.loop-step.step-index in
    let lt : i < length path = omega (arith, c.loop-step-test.true) in
    let h = c.loop-step.invariant.arrived in
    let next = c.in-Ok-Some.next in
    let r = rw c.in-Ok-Some.field-0-is at (c.in-Ok-Some.ensures.some (take i path) h.0 h.1) in
    search (rules, take_more)

pub returns-clause-some : goal.returns-clause-some
returns-clause-some g c =
    let m = g.M.Segments.segments c.args.message.now in
    let i = c.loop-step.step-index in
    let h = c.loop-step.invariant.arrived in
    let whole : take i _ ≡ _ = take_all i _ (omega (arith, c.loop-step-test.false)) in
    (c.loop-step.at.level, h.0, subst (λ u. ReachesSpot m u c.loop-step.at.level h.0) whole h.1.comes, h.1.found.object)

pub returns-clause-refuses : goal.returns-clause-refuses
returns-clause-refuses g c = λ r refused.
    (let m = g.M.Segments.segments c.args.message.now in
    let path = c.args.path.now in
    let i = c.loop-step.step-index in
    let h = c.loop-step.invariant.arrived in
    let whole : take i path ≡ path = take_all i path (omega (arith, c.loop-step-test.false)) in
    let on : AreOnPath m path h.1.ways = subst (λ u. AreOnPath m u h.1.ways) whole h.1.on_path in
    absurd (search (rules, path_not_refused)))

pub step-requires-clause-arrived : goal.step-requires-clause-arrived
step-requires-clause-arrived g c =
    let h = c.loop-step.invariant.arrived in
    ∣ (take c.loop-step.step-index c.args.path.now, h.0, h.1) ∣₁
