-- Places that are in two lists, and those that following a pointer uses.
use Rattle.cap_spec.specs.Denoting.{places}
use Rattle.cap_spec.proofs.Disjoint.Places.{at_place, in_places, place_either, place_left, place_right}
use Rattle.cap_spec.proofs.ProofNames.{List, arith, inl, inr, subst, sym, ℕ, ◌++◌, ◌+◌, ◌<◌, ◌≡◌, ◌≤◌, ◌⊎◌, IsOneOf}
use Rattle.cap_spec.proofs.ProofNames.{HasWord, Occupies, ap, append-nil, pads_of, refl}
use Rattle.cap_ptr.specs.Shapes.{IsFollowed}
use Rattle.cap_ptr.specs.declared.shapes.Followed.{Followed}
use Rattle.cap_ptr.specs.declared.shapes.Followed.TheVariants.{Cap, Null, Target}
use Rattle.cap_spec.specs.declared.Reason.{Reason}
use Rattle.cap_spec.proofs.Lemmas.{object-not_wrong}
use Rattle.cap_spec.proofs.Pointers.Following.{cap-not_wrong, null-not_wrong}
use Rattle.cap_spec.proofs.ProofNames.{Wrong}
use Rattle.cap_trace.specs.EarlierPointers.{HaveCommon, target_places}

-- A common place of two ranges is in both.
pub range_common : {t b t' b' : ℕ} (n n' : ℕ) → HaveCommon (places t b n) (places t' b' n')
    → (t ≡ t') × (w : ℕ) × (b ≤ w) × (b' ≤ w) × (w < b + n) × (w < b' + n')
range_common {t} {b} {t'} {b'} n n' ((s, w), i, j) =
    let p = in_places t b n s w i in
    let q = in_places t' b' n' s w j in
    (omega (arith, p.0, q.0), w, p.1, q.1, p.2, q.2)

pub common_range : {t b t' b' : ℕ} (n n' w : ℕ) → t ≡ t' → b ≤ w → b' ≤ w → w < b + n → w < b' + n'
    → HaveCommon (places t b n) (places t' b' n')
common_range {t} {b} {t'} {b'} n n' w e low low' high high' = (
  (t, w),
  at_place t b n w low high,
  subst (λ (u : ℕ). IsOneOf (u, w) (places t' b' n')) (sym e) (at_place t' b' n' w low' high'),
)

-- of two lists joined it is in one of them
pub common_later : (xs ys zs : List (ℕ × ℕ)) → HaveCommon xs (ys ++ zs) → HaveCommon xs ys ⊎ HaveCommon xs zs
common_later xs ys zs (x, i, j) = elim (place_either x ys zs j) [ inl k ↦ inl (x, i, k) | inr k ↦ inr (x, i, k) ]

pub common_earlier : (xs ys zs : List (ℕ × ℕ)) → HaveCommon (xs ++ ys) zs → HaveCommon xs zs ⊎ HaveCommon ys zs
common_earlier xs ys zs (x, i, j) = elim (place_either x xs ys i) [ inl k ↦ inl (x, k, j) | inr k ↦ inr (x, k, j) ]

-- and the other way round
pub later_common : (xs ys zs : List (ℕ × ℕ)) → HaveCommon xs ys ⊎ HaveCommon xs zs → HaveCommon xs (ys ++ zs)
later_common xs ys zs (inl (x, i, j)) = (x, i, place_left x ys zs j)
later_common xs ys zs (inr (x, i, j)) = (x, i, place_right x ys zs j)

pub earlier_common : (xs ys zs : List (ℕ × ℕ)) → HaveCommon xs zs ⊎ HaveCommon ys zs → HaveCommon (xs ++ ys) zs
earlier_common xs ys zs (inl (x, i, j)) = (x, place_left x xs ys i, j)
earlier_common xs ys zs (inr (x, i, j)) = (x, place_right x xs ys i, j)

-- Following uses the words of the landing pads, and those of the object.
pub followed_used : (m : List (List ℕ)) (s w p : ℕ) (f : Followed) → HasWord m s w p → IsFollowed m s w f
    → Occupies m s w (pads_of p ++ target_places f)
followed_used m s w p (Null k) has h =
    subst (λ (u : List (ℕ × ℕ)). Occupies m s w u) (sym (append-nil (pads_of p))) (p, has, inl (k, h, refl))
followed_used m s w p (Cap k i) has h =
    subst (λ (u : List (ℕ × ℕ)). Occupies m s w u) (sym (append-nil (pads_of p))) (p, has, inr (inl (k, i, h, refl)))
followed_used m s w p (Target x) has h = (
  p,
  has,
  inr (inr (x.pads, x.segment, x.start, h.0, h.2.finds, ap (λ u. pads_of p ++ places x.segment x.start u) h.2.object.words)),
)

-- A pointer that can't be followed uses nothing.
pub wrong_unused : (m : List (List ℕ)) (s w : ℕ) (v : Reason) (used : List (ℕ × ℕ)) → Wrong m s w v → Occupies m s w used → ⊥
wrong_unused m s w v used wrong (p, has, inl (k, h, e)) = null-not_wrong m s w k h v wrong
wrong_unused m s w v used wrong (p, has, inr (inl (k, i, h, e))) = cap-not_wrong m s w k i h v wrong
wrong_unused m s w v used wrong (p, has, inr (inr (k, t, b, q, f, e))) = object-not_wrong m s w k t b q f v wrong
