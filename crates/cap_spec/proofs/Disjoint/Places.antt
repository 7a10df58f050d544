-- The places of a range of words, those of landing pads, and of how many words distinct places are.
use Rattle.std.proofs.lemmas.List.Sums.{sum_by_from}
use Rattle.cap_spec.specs.Denoting.{places}
use Rattle.cap_spec.proofs.Frames.Messages.{HasWord-inside, HasWord-segment}
use Rattle.cap_spec.proofs.ProofNames.{List, [], ap, arith, inl, inr, length, length-append, refl, subst, suc, sum, sym}
use Rattle.cap_spec.proofs.ProofNames.{zero, ℕ, ◌++◌, ◌+◌, ◌<◌, ◌∙◌, ◌∷◌, ◌≡◌, ◌≢◌, ◌≤◌, ◌⊎◌, cases_eq, Lead, Leads}
use Rattle.cap_spec.proofs.ProofNames.{sizes_of, AreDistinct, IsOneOf, HasWord, segment_of, pads_of, far_segment, kind}
use Rattle.cap_spec.proofs.ProofNames.{pad, two, rules}
use Rattle.cap_spec.proofs.Trees.Charges.{length-places}

-- the places of a range
pub in_places : (t b n s w : ℕ) → IsOneOf (s, w) (places t b n) → (s ≡ t) × (b ≤ w) × (w < b + n)
in_places t b zero s w h = absurd h
in_places t b (suc n) s w (inl e) = search rules
in_places t b (suc n) s w (inr h) = omega (arith, in_places t (b + 1) n s w h)

pub at_place : (t b n w : ℕ) → b ≤ w → w < b + n → IsOneOf (t, w) (places t b n)
at_place t b zero w h k = absurd (omega arith)
at_place t b (suc n) w h k = search (rules, cases_eq, at_place t (b + 1) n w)

pub apart_places : (t b n : ℕ) → AreDistinct (places t b n)
apart_places t b zero = tt
apart_places t b (suc n) = ((λ h. let r = in_places t (b + 1) n t b h in omega (arith, r.1)), apart_places t (b + 1) n)

-- a place of two lists joined is one of the first or one of the second
pub place_left : (x : ℕ × ℕ) (xs ys : List (ℕ × ℕ)) → IsOneOf x xs → IsOneOf x (xs ++ ys)
place_left x [] ys h = absurd h
place_left x (z ∷ xs) ys (inl e) = inl e
place_left x (z ∷ xs) ys (inr h) = inr (place_left x xs ys h)

pub place_right : (x : ℕ × ℕ) (xs ys : List (ℕ × ℕ)) → IsOneOf x ys → IsOneOf x (xs ++ ys)
place_right x [] ys h = h
place_right x (z ∷ xs) ys h = inr (place_right x xs ys h)

pub place_either : (x : ℕ × ℕ) (xs ys : List (ℕ × ℕ)) → IsOneOf x (xs ++ ys) → IsOneOf x xs ⊎ IsOneOf x ys
place_either x [] ys h = inr h
place_either x (z ∷ xs) ys (inl e) = inl (inl e)
place_either x (z ∷ xs) ys (inr h) = elim (place_either x xs ys h) [ inl k ↦ inl (inr k) | inr k ↦ inr k ]

-- two lists of places without a common one
pub apart_append : (xs ys : List (ℕ × ℕ)) → AreDistinct xs → AreDistinct ys
    → ((x : ℕ × ℕ) → IsOneOf x xs → IsOneOf x ys → ⊥) → AreDistinct (xs ++ ys)
apart_append [] ys h k none = k
apart_append (x ∷ xs) ys h k none = (
  (λ p. elim (place_either x xs ys p) [ inl q ↦ h.0 q | inr q ↦ none x (inl refl) q ]),
  apart_append xs ys h.1 k (λ y p q. none y (inr p) q),
)

-- a pointer that isn't far has no pads
pub no_pads : (p : ℕ) → kind p ≢ 2 → pads_of p ≡ []
no_pads p n = search rules

-- one that is far has one or two in a row
pub pads_in_a_row : (p : ℕ) → kind p ≡ 2 → pads_of p ≡ places (far_segment p) (pad p) (1 + two p)
pads_in_a_row p h = by_two (two p) refl (omega arith)
  where
    by_two : (n : ℕ) → two p ≡ n → two p < 2 → pads_of p ≡ places (far_segment p) (pad p) (1 + two p)
    by_two zero e lt = rw (h, e) refl
    by_two (suc zero) e lt = rw (h, e) refl
    by_two (suc (suc n)) e lt = absurd (omega (arith, e))

-- where it leads to some place, they exist
pub pads_inside : (m : List (List ℕ)) (s w k p : ℕ) (r : Lead) → Leads m s w k r → HasWord m s w p → kind p ≡ 2
    → (far_segment p < length m) × (pad p + (1 + two p) ≤ length (segment_of m (far_segment p)))
pads_inside m s w k p r x6 h far = search (rules, HasWord-segment, HasWord-inside)

pub pad_inside : (m : List (List ℕ)) (s w k p : ℕ) (r : Lead) (t x : ℕ) → Leads m s w k r → HasWord m s w p
    → IsOneOf (t, x) (pads_of p)
    → (t < length m) × (x < length (segment_of m t))
pad_inside m s w k p r t x leads has i = elim (cases_eq (kind p) 2) [
  | inl far ↦
      let c = in_places (far_segment p) (pad p) (1 + two p) t x
      (subst (λ (u : List (ℕ × ℕ)). IsOneOf (t, x) u) (pads_in_a_row p far) i) in
      let y = pads_inside m s w k p r leads has far in
      search rules
  | inr n ↦ absurd (subst (λ (u : List (ℕ × ℕ)). IsOneOf (t, x) u) (no_pads p n) i)
]

-- they are as many as the pointer leads over
pub pads_number : (m : List (List ℕ)) (s w k p : ℕ) (r : Lead) → Leads m s w k r → HasWord m s w p
    → length (pads_of p) ≡ k
pads_number m s w k p r x6 h = search rules

-- a list of places without one of them
remove : (x : ℕ × ℕ) (ys : List (ℕ × ℕ)) → IsOneOf x ys
    → (zs : List (ℕ × ℕ)) × (length ys ≡ suc (length zs))
    × ((y : ℕ × ℕ) → IsOneOf y ys → (y ≡ x → ⊥) → IsOneOf y zs)
remove x [] h = absurd h
remove x (y ∷ ys) (inl e) = (ys, refl, λ z i n. elim i [ inl f ↦ absurd (n (f ∙ sym e)) | inr j ↦ j ])
remove x (y ∷ ys) (inr h) = let r = remove x ys h in
    (y ∷ r.0, ap suc r.1, λ z i n. elim i [ inl f ↦ inl f | inr j ↦ inr (r.2 z j n) ])

-- distinct places of a list are at most as many as it has
pub few_places : (xs ys : List (ℕ × ℕ)) → AreDistinct xs → ((x : ℕ × ℕ) → IsOneOf x xs → IsOneOf x ys)
    → length xs ≤ length ys
few_places [] ys a h = omega arith
few_places (x ∷ xs) ys a h =
    let r = remove x ys (h x (inl refl)) in
    let k = few_places xs r.0 a.1 (λ y i. r.2 y (h y (inr i)) (λ e. a.0 (subst (λ (u : ℕ × ℕ). IsOneOf u xs) e i))) in
    omega (arith, r.1, k)

-- all places of the segments, the first of them segment s
abbrev pub all_places : ℕ → List (List ℕ) → List (ℕ × ℕ)
all_places s [] = []
all_places s (segment ∷ m) = places s 0 (length segment) ++ all_places (suc s) m

pub length_all : (s : ℕ) (m : List (List ℕ)) → length (all_places s m) ≡ sum (sizes_of m)
length_all s [] = refl
length_all s (segment ∷ m) = search (rules, length-places, sum_by_from, length-append, length_all (suc s) m)

pub in_all : (s : ℕ) (m : List (List ℕ)) (t w : ℕ) → t < length m → w < length (segment_of m t)
    → IsOneOf (s + t, w) (all_places s m)
in_all s [] t w h k = absurd (omega arith)
in_all s (segment ∷ m) zero w h k = place_left (s + 0, w) (places s 0 (length segment)) (all_places (suc s) m)
    (search (rules, at_place))
in_all s (segment ∷ m) (suc t) w h k = search (rules, place_right, in_all (suc s) m t w (omega arith) k)
