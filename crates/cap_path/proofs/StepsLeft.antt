-- The first of the steps of a path is read, and the others are left.
use Rattle.std.proofs.lemmas.List.{at_drop_more}
use Rattle.cap_spec.specs.declared.Step.{Step}
use Rattle.cap_spec.proofs.Paths.PathTexts.{EndsNumber, all_digits, ends_number, one_number}
use Rattle.cap_spec.proofs.ProofNames.{List, None, Option, Some, [], drop, flat_map, get_or, inl, inr}
use Rattle.cap_spec.proofs.ProofNames.{length, refl, subst, sym, take-append-drop, ℕ, ◌++◌, ◌<◌, ◌∷◌, ◌≡◌, leb_tells}
use Rattle.cap_spec.proofs.ProofNames.{decimal_injective, drop_all, AllByRecursion, IsStep, step_text, rules}
use Rattle.cap_path.specs.PathReading.{IsStepAt}
use Rattle.cap_path.specs.PathSteps.{AreStepsLeft}
use Rattle.cap_path.specs.declared.steps.PathSteps.{PathSteps}

-- the text of a step and what follows it, in one way
one_front : (s t : Step) (r u : List ℕ) → IsStep s → IsStep t → EndsNumber r → EndsNumber u
    → step_text s ++ r ≡ step_text t ++ u → (s ≡ t) × (r ≡ u)
one_front s t r u a b p q e = search (rules, one_number, all_digits, decimal_injective)

-- what follows a step that is read ends its number
ends_after : (text : List ℕ) (end : ℕ) → (end < length text → get_or text end 0 ≡ 47) → EndsNumber (drop end text)
ends_after text end ends = elim (leb_tells (length text) end) [
  | inl past ↦ subst EndsNumber (sym (drop_all end text past.1)) tt
  | inr more ↦ subst EndsNumber (sym (at_drop_more (λ l. l) text end 0 more.1)) (ends more.1)
]

-- The step that is read is the first one.
pub first_read : (text : List ℕ) (end : ℕ) (s step : Step) (more : List Step) → IsStepAt text 0 s end
    → AllByRecursion IsStep (step ∷ more) → text ≡ flat_map step_text (step ∷ more)
    → (s ≡ step) × (drop end text ≡ flat_map step_text more)
first_read text end s step more h are e = search (rules, one_front, ends_after text end h.ends, ends_number more, take-append-drop end text)

-- The text of some steps begins with a slash, and is longer.
pub first_slash : (text : List ℕ) (step : Step) (more : List Step) → text ≡ flat_map step_text (step ∷ more)
    → (1 < length text) × (get_or text 0 0 ≡ 47)
first_slash text step more e = search rules

-- The step that is read is the first of those that are left,
pub step_left : (old new : PathSteps) (result : Option Step) (step : Step) (more : List Step) → result ≡ Some step
    → ((s : Step) (rest : List Step) → AreStepsLeft old (s ∷ rest) → (result ≡ Some s) × AreStepsLeft new rest)
    → (AreStepsLeft old [] → (result ≡ None) × AreStepsLeft new []) → AreStepsLeft old more
    → (rest : List Step) × (more ≡ step ∷ rest) × AreStepsLeft new rest
step_left old new result step [] is some none left = let n = (none left).0 in absurd (cc)
step_left old new result step more is some none left = search rules

-- and without one none are left.
pub no_step_left : (old new : PathSteps) (result : Option Step) (more : List Step) → result ≡ None
    → ((s : Step) (rest : List Step) → AreStepsLeft old (s ∷ rest) → (result ≡ Some s) × AreStepsLeft new rest)
    → AreStepsLeft old more → more ≡ []
no_step_left old new result [] is some left = refl
no_step_left old new result more is some left = search rules
