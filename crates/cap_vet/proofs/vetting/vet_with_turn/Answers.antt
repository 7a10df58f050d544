use Rattle.cap_spec.proofs.ProofNames.{rules}
use Rattle.cap_walk.proofs.Verdicts.{before_weaker, vetted_within}
use Rattle.cap_vet.proofs.vetting.vet_with_turn.Goals as goal

pub returns-clause-before : goal.returns-clause-before
returns-clause-before g c = search (rules, before_weaker)

pub invariant_of-result : goal.invariant_of-result
invariant_of-result g c =
    record { accepted = ∣ vetted_within _ c.args.limits _ c.in-Ok-walk.ensures.ok.0 ∣₁ }
