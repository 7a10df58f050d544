-- The steps that were pushed and those that are left are all.
use Rattle.cap_spec.specs.declared.Step.{Step}
use Rattle.cap_spec.proofs.Paths.PathTexts.{one_path_text}
use Rattle.cap_spec.proofs.ProofNames.{List, [], ap, append-nil, append_assoc, subst, sym, ◌++◌, ◌∙◌, ◌∷◌, ◌≡◌}
use Rattle.cap_spec.proofs.ProofNames.{AllByRecursion, IsStep, path_text}
use Rattle.cap_path.proofs.StepsLeft.{no_step_left, step_left}
use Rattle.cap_path.proofs.parsing.parse_path.Goals as goal

pub returns-in-Err-clause-root : goal.returns-in-Err-clause-root
returns-in-Err-clause-root c = λ e. absurd (c.in-Err.ensures.bad.none ([], tt, c.as_bytes.ensures.value ∙ e))

pub loop-step-preserved : goal.loop-step-preserved
loop-step-preserved c =
    let h = c.loop-step.invariant in
    let items = c.loop-step.steps.items in
    let n = step_left c.loop-step.left c.next.new.self c.next.result c.in-Some.step h.1 c.in-Some.is c.next.ensures.some c.next.ensures.none h.5 in
    let joined : h.0 ≡ c.push.new.self.items ++ n.0 =
    h.4 ∙ ap (λ (ss : List Step). items ++ ss) n.1 ∙ sym (append_assoc items (c.in-Some.step ∷ []) n.0)
    ∙ ap (λ (ss : List Step). ss ++ n.0) (sym c.in-Ok-push.ensures.items) in
    (h.0, n.0, h.2, h.3, joined, n.2)

pub returns-clause-ok : goal.returns-clause-ok
returns-clause-ok c =
    let h = c.loop-step.invariant in
    let items = c.loop-step.steps.items in
    let none = no_step_left c.loop-step.left c.next.new.self c.next.result h.1 c.in_default.is c.next.ensures.some h.5 in
    let all : h.0 ≡ items = h.4 ∙ ap (λ (ss : List Step). items ++ ss) none ∙ append-nil items in
    (subst (λ (ss : List Step). AllByRecursion IsStep ss) all h.2, h.3 ∙ ap (λ (ss : List Step). path_text ss) all)

pub returns-clause-path : goal.returns-clause-path
returns-clause-path c = λ steps a e. let ok = returns-clause-ok c in one_path_text c.loop-step.steps.items steps ok.0 a (sym ok.1 ∙ e)
