-- An accepted message has one report, and no reason to be refused.
use Rattle.cap_spec.proofs.Lemmas.{one_first_cap, one_tree, within_not_refused}
use Rattle.cap_spec.proofs.ProofNames.{List, None, Option, Some, ap₂, refl, ℕ, ◌≡◌, IsRefused, rules}
use Rattle.cap_spec.specs.declared.Refusal.{Refusal}
use Rattle.cap_walk.specs.WalkNames.{IsAccepted, IsFirstCapOf, Report}

-- there is one first capability, or none
one_cap : (m : List (List ℕ)) (a b : Option (ℕ × ℕ)) → IsFirstCapOf m a → IsFirstCapOf m b → a ≡ b
one_cap m None None h k = refl
one_cap m (Some (s, w)) (Some (t, x)) h k =
    (let same = one_first_cap m s w t x h k in ap₂ (λ (a b : ℕ). Some (a, b)) same.0 same.1)
one_cap m a b h k = search rules

-- An accepted message has one report.
pub one_report : (m : List (List ℕ)) (words depth : ℕ) (a b : Report) → IsAccepted m words depth a → IsAccepted m words depth b → a ≡ b
one_report m words depth a b h k = search (rules, one_tree, one_cap)

-- A message isn't both accepted and refused.
pub not_both : (m : List (List ℕ)) (words depth : ℕ) (a : Report) (r : Refusal) → IsAccepted m words depth a → IsRefused m words depth r → ⊥
not_both m words depth a r (t, h) k = within_not_refused m words depth r (t, a.charge, a.depth, h.within) k

-- the same within limits of these numbers
pub not_both_within : (m : List (List ℕ)) (words depth : ℕ) {words' depth' : ℕ} {a : Report} {r : Refusal} → words' ≡ words → depth' ≡ depth
    → IsAccepted m words depth a → IsRefused m words' depth' r → ⊥
not_both_within m words depth w d accepted refused = not_both m words depth _ _ accepted (rw (w, d) at refused)
