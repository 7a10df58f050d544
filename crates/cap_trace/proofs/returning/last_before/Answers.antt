use Rattle.std.proofs.Common.{arith, inl, inr, subst, sym, take, ℕ, ◌-◌, ◌≡◌, ◌∙◌}
use Rattle.std.proofs.lemmas.Bool.{cases_lt}
use Rattle.cap_spec.proofs.ProofNames.{word}
use Rattle.cap_trace.specs.Branches.{last_spot}
use Rattle.cap_trace.proofs.Returns.{is_return, no_return}
use Rattle.cap_trace.proofs.returning.last_before.Goals as goal

pub returns-then-steps-eq0 : goal.returns-then-steps-eq0
returns-then-steps-eq0 c = λ m h.
    no_return m _ c.args.all _ _ h c.requires.few.0
    (λ k less at. c.shorter.invariant.none k (omega (arith, c.if-steps-eq0.true)) less at)

pub returns-then-comes_to : goal.returns-then-comes_to
returns-then-comes_to c = λ m h.
    is_return m _ c.args.all _ _ (c.shorter.steps - 1) h c.requires.few.0
    (omega (arith, c.shorter.invariant.few, c.if-steps-eq0.false)) (c.comes_to.ensures.0 c.if-comes_to.true)
    (λ j more few at. c.shorter.invariant.none j (omega (arith, more)) few at)

pub shorter-preserved : goal.shorter-preserved
shorter-preserved c = record {
  few = omega (arith, c.shorter.invariant.few);
  none = λ k low high at. elim (cases_lt (c.shorter.steps - 1) k) [
    | inl more ↦ c.shorter.invariant.none k (omega (arith, more)) high at
    | inr less ↦
        let e : k ≡ c.shorter.steps - 1 = omega (arith, low, less) in
        absurd (cc (sym c.if-comes_to.false ∙ c.comes_to.ensures.1
        (subst (λ (u : ℕ). last_spot (word 0 0) (take u c.args.branches.now) ≡ word c.args.here.now.segment c.args.here.now.at) e at)))
  ];
}
