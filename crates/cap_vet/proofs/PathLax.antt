-- What is known of the pointers on a path that common readers reject, step by step.
use Rattle.cap_spec.proofs.Lemmas.{one_reached, one_of_last}
use Rattle.cap_spec.proofs.ProofNames.{List, None, Option, Some, [], inl, inr, length, subst, sym, ℕ, ◌++◌, ◌∙◌, ◌∷◌}
use Rattle.cap_spec.proofs.ProofNames.{◌≡◌, AreOnPath, Reaches, IsLaxAt, rules}
use Rattle.cap_spec.proofs.Verdicts.OnPath.{begins_itself, begins_longer}
use Rattle.cap_vet.specs.VetNames.{Lax, Step, IsNotLax, IsFirstLaxOnPath, AddsPointer, KnowsLaxOnPath, LaxPointer}

-- The first on the beginning of a path is the first on the path.
lax_longer : (m : List (List ℕ)) (prev more : List Step) (s w : ℕ) (what : Lax) (n : ℕ)
    → IsFirstLaxOnPath m prev s w what n → IsFirstLaxOnPath m (prev ++ more) s w what n
lax_longer m prev more s w what n f = search (rules, begins_longer)

-- Without a pointer more the same is known,
pub lax_same : (m : List (List ℕ)) (prev more : List Step) (ways : List (List Step)) (o : Option LaxPointer)
    → KnowsLaxOnPath m prev ways o → KnowsLaxOnPath m (prev ++ more) ways o
lax_same m prev more ways o k = search (rules, lax_longer)

-- and with one more what it adds.
pub lax_added : (m : List (List ℕ)) (prev more : List Step) (ways : List (List Step)) (level s w n : ℕ)
    (before after : Option LaxPointer) → AreOnPath m (prev ++ more) (ways ++ (prev ++ more) ∷ [])
    → Reaches m (prev ++ more) level s w → n ≡ length (ways ++ (prev ++ more) ∷ [])
    → KnowsLaxOnPath m prev ways before → AddsPointer m s w n before after
    → KnowsLaxOnPath m (prev ++ more) (ways ++ (prev ++ more) ∷ []) after
lax_added m prev more ways level s w n (Some x) after on r e k a = search (rules, lax_longer)
lax_added m prev more ways level s w n None None on r e k a = λ q i (level', s', w', what, reached, lax). elim (one_of_last q (prev ++ more) ways i) [
  | inl same ↦
      let z = one_reached m (prev ++ more) level' level s' w' s w (subst (λ y. Reaches m y level' s' w') same reached) r in
      a what (subst (λ y. IsLaxAt m s y what) z.2 (subst (λ y. IsLaxAt m y w' what) z.1 lax))
  | inr j ↦ k q j (level', s', w', what, reached, lax)
]
lax_added m prev more ways level s w n None (Some x) on r e k a = record {
  way = prev ++ more;
  begin = begins_itself (prev ++ more);
  before = ways;
  level = level;
  reached = search rules;
  on_path = on;
  lax = subst (λ y. IsLaxAt m x.segment y x.what) (sym a.2) (subst (λ y. IsLaxAt m y w x.what) (sym a.1) a.0);
  first = k;
  number = a.3 ∙ e;
}

-- A pointer that isn't lax adds nothing.
pub adds_strict : (m : List (List ℕ)) (s w n : ℕ) (lax : Option LaxPointer) → IsNotLax m s w → AddsPointer m s w n lax lax
adds_strict m s w n lax strict = search rules
