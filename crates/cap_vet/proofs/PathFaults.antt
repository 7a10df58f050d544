-- The pointers on a path meet the demands, or have one fault.
use Rattle.cap_spec.specs.declared.StrictRefusal.TheVariants.{Refused}
use Rattle.cap_spec.proofs.Lemmas.{one_reached, one_of_last}
use Rattle.cap_spec.proofs.ProofNames.{List, [], ap, arith, inl, inr, length, length-append, refl, subst, sym, ℕ}
use Rattle.cap_spec.proofs.ProofNames.{◌++◌, ◌∙◌, ◌∷◌, ◌≡◌, ◌⊎◌, AreOnPath, IsRefusedOnPath, IsOneOf, Reaches, IsLax}
use Rattle.cap_spec.proofs.ProofNames.{rules}
use Rattle.cap_spec.proofs.Strict.Faults.{same_pointer}
use Rattle.cap_spec.proofs.Strict.LaxForms.{one_lax}
use Rattle.cap_spec.proofs.Verdicts.OnPath.{one_path_list, one_path_refusal, path_not_refused}
use Rattle.cap_vet.specs.PathDemands.{KeepsToLimits}
use Rattle.cap_vet.specs.VetNames.{Lax, Refusal, Step, StrictRefusal, Pointer, words_under, IsFirstLaxOnPath}
use Rattle.cap_vet.specs.VetNames.{IsPathFault, MeetsOnPath, Demands}

-- pointers that keep to the limits aren't refused
kept_not_refused : (m : List (List ℕ)) (words depth : ℕ) (path : List Step) (r : Refusal) → KeepsToLimits m words depth path
    → IsRefusedOnPath m words depth path r → ⊥
kept_not_refused m words depth path r (left, k) refused =
    path_not_refused m words depth path _ _ r k.on_path k.some k.costs k.shallow (omega (arith, k.consumed)) refused

-- the first one on a path is one of them
first_is_lax : (m : List (List ℕ)) (path : List Step) (s w : ℕ) (what : Lax) (n : ℕ)
    → (f : IsFirstLaxOnPath m path s w what n) → IsLax m f.way
first_is_lax m path s w what n f = (f.level, s, w, what, f.reached, f.lax)

-- What meets the demands has no fault.
pub meets_no_path_fault : (demands : Demands) (m : List (List ℕ)) (words depth : ℕ) (path : List Step) (r : StrictRefusal)
    → MeetsOnPath demands m words depth path → IsPathFault demands m words depth path r → ⊥
meets_no_path_fault demands m words depth path (Pointer what s w n) h k =
    (h.strict k.0).1 k.3.way k.3.begin (first_is_lax m path s w what n k.3)
meets_no_path_fault demands m words depth path r h k = search (rules, kept_not_refused)

-- of two beginnings of one path, each is the other or goes on from it
begins_order : (p q rest s : List Step) → p ++ rest ≡ q ++ s → (p ≡ q) ⊎ ((x : Step) × (more : List Step) × (q ≡ p ++ x ∷ more))
    ⊎ ((x : Step) × (more : List Step) × (p ≡ q ++ x ∷ more))
begins_order [] [] rest s e = inl refl
begins_order (x ∷ p) (y ∷ q) rest s e = search (rules, begins_order p q rest s cc)
begins_order p q rest s e = search rules

-- a path that goes on from another comes after it
shorter : (m : List (List ℕ)) (p way : List Step) (x : Step) (more : List Step) (before : List (List Step)) (level s w : ℕ)
    → way ≡ p ++ x ∷ more → Reaches m p level s w → AreOnPath m way (before ++ way ∷ []) → IsOneOf p before
shorter m p way x more before level s w e r on = elim (one_of_last p way before (on.all p level s w (x ∷ more, e) r)) [
  | inl same ↦ let long = ap length (same ∙ e) in absurd (omega (arith, long, length-append p (x ∷ more)))
  | inr i ↦ i
]

-- There is one first one on a path.
module _ (m : List (List ℕ)) (path : List Step) (s w s' w' : ℕ) (u v : Lax) (n n' : ℕ)
    (f : IsFirstLaxOnPath m path s w u n) (g : IsFirstLaxOnPath m path s' w' v n') where
  same_way : f.way ≡ g.way → (u ≡ v) × (s ≡ s') × (w ≡ w') × (n ≡ n')
  same_way e =
      let r = one_reached m f.way f.level g.level s w s' w' f.reached (search rules) in
      let on = subst (λ (y : List Step). AreOnPath m y (g.before ++ y ∷ [])) (sym e) g.on_path in
      search (rules, one_path_list m f.way (f.before ++ f.way ∷ []) (g.before ++ f.way ∷ []) f.on_path on, one_lax)

  pub one_first_on_path : (u ≡ v) × (s ≡ s') × (w ≡ w') × (n ≡ n')
  one_first_on_path = by_order (begins_order f.way g.way f.begin.0 g.begin.0 (sym f.begin.1 ∙ g.begin.1))
    where
      by_order : (f.way ≡ g.way) ⊎ ((x : Step) × (more : List Step) × (g.way ≡ f.way ++ x ∷ more))
          ⊎ ((x : Step) × (more : List Step) × (f.way ≡ g.way ++ x ∷ more)) → (u ≡ v) × (s ≡ s') × (w ≡ w') × (n ≡ n')
      by_order (inl e) = same_way e
      by_order (inr (inl (x, more, e))) =
          absurd (g.first f.way (shorter m f.way g.way x more g.before f.level s w e f.reached g.on_path) (first_is_lax m path s w u n f))
      by_order (inr (inr (x, more, e))) =
          absurd (f.first g.way (shorter m g.way f.way x more f.before g.level s' w' e g.reached f.on_path) (first_is_lax m path s' w' v n' g))

-- There is one fault.
pub one_path_fault : (demands : Demands) (m : List (List ℕ)) (words depth : ℕ) (path : List Step) (f g : StrictRefusal)
    → IsPathFault demands m words depth path f → IsPathFault demands m words depth path g → f ≡ g
one_path_fault demands m words depth path (Refused r) (Refused r') h k =
    ap Refused (one_path_refusal m (words_under demands m words) depth path r r' h k)
one_path_fault demands m words depth path (Pointer u s w n) (Pointer v s' w' n') h k =
    let e = one_first_on_path m path s w s' w' u v n n' h.3 k.3 in
    same_pointer u v s w n s' w' n' e.1 e.2 e.0 e.3
one_path_fault demands m words depth path f g h k = search (rules, kept_not_refused)
