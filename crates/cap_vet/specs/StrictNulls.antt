-- A null word isn't lax: the law of the turn that looks for lax pointers (profile).
use Rattle.std.proofs.Common.{arith, inl, inr, subst}
use Rattle.std.specs.Prelude.{List, None, Option, Some, ℕ, ◌∷◌}
use Rattle.cap_spec.specs.SpecNames.{HasWord, Reaches, IsLax, IsLaxAt}
use Rattle.cap_spec.specs.declared.Lax.{Lax}
use Rattle.cap_spec.specs.declared.Step.{Step}
use Rattle.cap_spec.proofs.Paths.Walks.{one_reached}
use Rattle.cap_spec.proofs.Strict.Looking.{near_has_none}
use Rattle.cap_vet.specs.Stricts.{KnowsLax}
use Rattle.cap_vet.specs.declared.strictness.strict_turn.LaxPointer.{LaxPointer}

-- a path isn't lax if the word that it reaches isn't
pub not_lax_path : (m : List (List ℕ)) (p : List Step) (level s w : ℕ) → Reaches m p level s w
    → ((what : Lax) → ¬ IsLaxAt m s w what) → ¬ IsLax m p
not_lax_path m p level s w r none (level', s', w', what, r', x) =
    let o = one_reached m p level' level s' w' s w r' r in
    none what (subst (λ u. IsLaxAt m s u what) o.2 (subst (λ u. IsLaxAt m u w' what) o.1 x))

-- where one more path isn't lax, the same is known
pub still_knows : (m : List (List ℕ)) (seen : List (List Step)) (p : List Step)
    (found : Option LaxPointer) → ¬ IsLax m p
    → KnowsLax m seen found → KnowsLax m (p ∷ seen) found
still_knows m seen p None none k = λ q one x. elim one [
  | inl e ↦ none (subst (λ (u : List Step). IsLax m u) e x)
  | inr i ↦ k q i x
]
still_knows m seen p (Some first) none k = k

-- a null word isn't lax
pub null_known : (m : List (List ℕ)) (seen : List (List Step)) (p : List Step) (level s w : ℕ)
    (found : Option LaxPointer) → Reaches m p level s w
    → HasWord m s w 0 → KnowsLax m seen found → KnowsLax m (p ∷ seen) found
null_known m seen p level s w found r has k =
    still_knows m seen p found (not_lax_path m p level s w r (near_has_none m s w 0 has (omega arith))) k
