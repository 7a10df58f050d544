-- Whether a far pointer is one that common readers reject, by the word of its landing pad.
use Rattle.cap_spec.specs.declared.Lax.TheVariants.{CapabilityPad, NullPad}
use Rattle.cap_spec.proofs.ProofNames.{List, arith, subst, ℕ, ◌<◌, ◌≡◌, ◌≢◌, Costs, HasWord, IsLaxAt, far_segment, kind, pad, two}
use Rattle.cap_spec.proofs.Strict.Looking.{cap_pad, other_pad, zero_pad}
use Rattle.cap_walk.specs.Looking.{IsNotLax}

-- It has a one-word pad q, at t:b.
module _ (m : List (List ℕ)) (s w p t b q : ℕ) (has : HasWord m s w p) (far : kind p ≡ 2) (one : two p ≡ 0)
    (segment : t ≡ far_segment p) (at : b ≡ pad p) (hasq : HasWord m t b q) where
  own : HasWord m (far_segment p) (pad p) q
  own = subst (λ u. HasWord m (far_segment p) u q) at (subst (λ u. HasWord m u b q) segment hasq)

  pub null_form : q ≡ 0 → IsLaxAt m s w NullPad
  null_form e = zero_pad m s w p q has (far, one) own e

  pub cap_form : (cost : ℕ) → Costs m s w cost → kind q ≡ 3 → IsLaxAt m s w CapabilityPad
  cap_form cost costs e = cap_pad m s w p q has (far, one) own cost costs e

  pub object_form : (kind q < 2) × (q ≢ 0) → IsNotLax m s w
  object_form object = other_pad m s w p q has (far, one) own object.1 (omega (arith, object.0))
