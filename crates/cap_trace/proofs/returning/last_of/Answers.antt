use Rattle.std.proofs.Common.{None, arith, inl, inr, subst, take, ℕ, ◌≡◌}
use Rattle.std.proofs.lemmas.Bool.{cases_lt}
use Rattle.cap_trace.specs.Branches.{path_of}
use Rattle.cap_trace.specs.Returns.{EndsOnCycle}
use Rattle.cap_trace.proofs.Returns.{last_cycle_at, no_cycle}
use Rattle.cap_trace.proofs.returning.last_of.Goals as goal

pub returns-then-steps-eq0 : goal.returns-then-steps-eq0
returns-then-steps-eq0 c = λ m h.
    no_cycle m c.args.branches.now (λ k some few. c.shorter.invariant.none m h k (omega (arith, c.if-steps-eq0.true, some)) few)

pub returns-in-Some : goal.returns-in-Some
returns-in-Some c = λ m h.
    last_cycle_at m c.args.branches.now c.shorter.steps c.in-Some.cycle h c.shorter.invariant.few
    (rw c.in-Some.is at (c.cycle_at.ensures m h)) (λ j more few. c.shorter.invariant.none m h j more few)

pub shorter-preserved : goal.shorter-preserved
shorter-preserved c = record {
  few = omega (arith, c.shorter.invariant.few);
  none = λ m h k more few. elim (cases_lt c.shorter.steps k) [
    | inl above ↦ c.shorter.invariant.none m h k above few
    | inr below ↦
        let e : c.shorter.steps ≡ k = omega (arith, more, below) in
        subst (λ (u : ℕ). EndsOnCycle m (path_of (take u c.args.branches.now)) None) e (rw c.in-None.is at (c.cycle_at.ensures m h))
  ];
}
