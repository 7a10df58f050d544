-- The first of the steps that a source gives, and the others.
use Rattle.cap_spec.specs.declared.Step.{Step}
use Rattle.cap_spec.proofs.ProofNames.{rules, List, None, Option, Some, [], refl, sym, ◌∙◌, ◌∷◌, ◌≡◌}

-- The source gives a step, and the others are still to come,
pub step_given : {S : Type 0} (gives : S → List Step → Type 0) (old new : S) (result : Option Step) (step : Step)
    (more : List Step) → result ≡ Some step
    → ((s : Step) (rest : List Step) → gives old (s ∷ rest) → (result ≡ Some s) × gives new rest)
    → (gives old [] → (result ≡ None) × gives new []) → gives old more
    → (rest : List Step) × (more ≡ step ∷ rest) × gives new rest
step_given gives old new result step [] is some none given = let n = (none given).0 in absurd (cc)
step_given gives old new result step (s ∷ rest) is some none given =
    let n = some s rest given in search rules

-- and without one none are.
pub no_step_given : {S : Type 0} (gives : S → List Step → Type 0) (old new : S) (result : Option Step) (more : List Step)
    → result ≡ None → ((s : Step) (rest : List Step) → gives old (s ∷ rest) → (result ≡ Some s) × gives new rest)
    → gives old more → more ≡ []
no_step_given gives old new result [] is some given = refl
no_step_given gives old new result (s ∷ rest) is some given =
    let n = some s rest given in let e : Some s ≡ None = sym n.0 ∙ is in absurd (cc)
