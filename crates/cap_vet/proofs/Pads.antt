-- The pad words of a pointer.
use Rattle.cap_spec.specs.Denoting.{places}
use Rattle.cap_spec.proofs.Disjoint.Places.{pads_in_a_row}
use Rattle.cap_spec.proofs.ProofNames.{Bool, eqb-true, false, refl, rules, sym, true, ℕ, ◌+◌, ◌==◌, ◌∙◌, ◌≡◌, ◌⊎◌}
use Rattle.cap_spec.proofs.ProofNames.{far_segment, kind, pad, pads_of, two}

pub many_pads : (p n : ℕ) (both : Bool) → both ≡ (two p == 1) → ((both ≡ true) × (n ≡ 2)) ⊎ ((both ≡ false) × (n ≡ 1)) → n ≡ 1 + two p
many_pads p n both e h = search (rules, eqb-true)

pub pad_places : (p t b n : ℕ) → kind p ≡ 2 → t ≡ far_segment p → b ≡ pad p → n ≡ 1 + two p → places t b n ≡ pads_of p
pad_places p t b n h e f k = rw (e, f, k) refl ∙ sym (pads_in_a_row p h)
