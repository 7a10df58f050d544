-- Which form a pointer that can be followed has, by its word and the words of its landing pad.
use Rattle.cap_spec.proofs.Pointers.Following.{leads-one}
use Rattle.cap_spec.proofs.ProofNames.{List, arith, inl, inr, refl, ℕ, ◌≡◌, ◌≢◌, IsOnePad, one_pad, to_cap, to_null}
use Rattle.cap_spec.proofs.ProofNames.{HasWord, Costs, far_segment, kind, pad, IsLaxAt, Lax, CapabilityPad, NullPad}
use Rattle.cap_spec.proofs.ProofNames.{common_steps, rules}

-- a pointer that isn't far has none of the forms
pub near_has_none : (m : List (List ℕ)) (s w p : ℕ) → HasWord m s w p → kind p ≢ 2 → (what : Lax) → ¬ IsLaxAt m s w what
near_has_none m s w p has n what x = grind (arith, common_steps)

-- It has a one-word pad.
module _ (m : List (List ℕ)) (s w p q : ℕ) (has : HasWord m s w p) (one : IsOnePad p)
    (hasq : HasWord m (far_segment p) (pad p) q) where
  -- of zeros
  pub zero_pad : q ≡ 0 → IsLaxAt m s w NullPad
  zero_pad e = one_pad p q has one hasq (λ f. absurd (omega (arith, e, f))) e refl

  -- that is a capability
  pub cap_pad : (cost : ℕ) → Costs m s w cost → kind q ≡ 3 → IsLaxAt m s w CapabilityPad
  cap_pad cost (inl h) e = let g = leads-one m s w cost to_null h p q has one hasq in absurd (omega (arith, e, g.1))
  cap_pad cost (inr (inl (i, h))) e =
      let g = leads-one m s w cost (to_cap i) h p q has one hasq in
      (i, one_pad p q has one hasq (λ f. absurd (omega (arith, e, f))) g.1 refl)
  cap_pad cost (inr (inr (k, t, b, x, tag, f, tagged, sum))) e = grind (arith, common_steps)

  -- and that is neither
  pub other_pad : q ≢ 0 → kind q ≢ 3 → (what : Lax) → ¬ IsLaxAt m s w what
  other_pad some n x2 h = search (rules, leads-one)
