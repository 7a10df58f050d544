-- A pointer has at most one form that common readers reject, has a landing pad there,
-- and whether it has one is decided.
use Rattle.cap_spec.proofs.Frames.Messages.{HasWord-inside}
use Rattle.cap_spec.proofs.Pointers.Following.{cap-not_wrong, null-not_wrong, object-not_wrong, one_lead}
use Rattle.cap_spec.proofs.ProofNames.{List, [], arith, inl, inr, pos, refl, ℕ, ◌∷◌, ◌≡◌, ◌≢◌, ◌≤◌, ◌⊎◌, eqb_tells}
use Rattle.cap_spec.proofs.ProofNames.{Finds, Lead, Leads, Wrong, to_cap, to_null, to_object, HasWord, segment_of}
use Rattle.cap_spec.proofs.ProofNames.{extent, IsLaxAt, Lax, CapabilityPad, EmptySegment, NullPad, Reason, rules}
use Rattle.cap_spec.proofs.Trees.Finding.{one_object}
use Rattle.cap_spec.proofs.Trees.Outcomes.{Fate, fate}

-- a segment with a word isn't empty
word_not_empty : (m : List (List ℕ)) (t w x : ℕ) → HasWord m t w x → segment_of m t ≡ [] → ⊥
word_not_empty m t w x h e = search (rules, HasWord-inside)

-- a lead to an object in a segment without words has two pad words
two_words : (m : List (List ℕ)) (s w k t b q : ℕ) → Leads m s w k (to_object t (pos b) q) → segment_of m t ≡ [] → k ≡ 2
two_words m s w k t b q x7 e = search (rules, word_not_empty)

-- so has one that is found there, and the object has no words
pub empty_by_two : (m : List (List ℕ)) (s w k t b q : ℕ) → Finds m s w k t b q → segment_of m t ≡ []
    → (k ≡ 2) × (b ≡ 0) × (extent q ≡ 0)
empty_by_two m s w k t b q f e = search (rules, two_words)

-- a pointer of one of these forms has a landing pad
pub lax_pads : (m : List (List ℕ)) (s w : ℕ) (what : Lax) → IsLaxAt m s w what
    → (k : ℕ) × (r : Lead) × Leads m s w k r × (1 ≤ k)
lax_pads m s w NullPad h = (1, to_null, h, omega arith)
lax_pads m s w EmptySegment (k, t, b, q, f, e) =
    (k, to_object t (pos b) q, f.leads, omega (arith, (empty_by_two m s w k t b q f e).0))
lax_pads m s w CapabilityPad (i, h) = (1, to_cap i, h, omega arith)

-- what a pointer leads to in each form
same_lead : (m : List (List ℕ)) (s w k k' : ℕ) (r r' : Lead) → Leads m s w k r → Leads m s w k' r' → r ≡ r'
same_lead m s w k k' r r' h g = (one_lead m s w k k' r r' h g).1

-- a pointer has one form
pub one_lax : (m : List (List ℕ)) (s w : ℕ) (u v : Lax) → IsLaxAt m s w u → IsLaxAt m s w v → u ≡ v
one_lax m s w NullPad NullPad h g = refl
one_lax m s w u v h g = search (rules, same_lead)

-- what is wrong has none of these forms
wrong_not_lax : (m : List (List ℕ)) (s w : ℕ) (v : Reason) → Wrong m s w v → (what : Lax) → ¬ IsLaxAt m s w what
wrong_not_lax m s w v wrong NullPad h = null-not_wrong m s w 1 h v wrong
wrong_not_lax m s w v wrong what h = search (rules, object-not_wrong, cap-not_wrong)

-- a pointer has one of these forms, or none
abbrev pub LaxOrNot : List (List ℕ) → ℕ → ℕ → Type 0
LaxOrNot m s w = ((what : Lax) × IsLaxAt m s w what) ⊎ ((what : Lax) → ¬ IsLaxAt m s w what)

-- what leads to null
null_decided : (m : List (List ℕ)) (s w k : ℕ) → Leads m s w k to_null → LaxOrNot m s w
null_decided m s w k leads = elim (eqb_tells k 1) [
  | inl (x, one) ↦ inl (NullPad, rw one at leads)
  | inr (x, other) ↦ inr (none other)
]
  where
    none : k ≢ 1 → (what : Lax) → ¬ IsLaxAt m s w what
    none other NullPad h = search (rules, one_lead)
    none other what h = search (rules, same_lead)

-- what leads to a capability
cap_decided : (m : List (List ℕ)) (s w k i : ℕ) → Leads m s w k (to_cap i) → LaxOrNot m s w
cap_decided m s w k i leads = elim (eqb_tells k 1) [
  | inl (x, one) ↦ inl (CapabilityPad, (i, rw one at leads))
  | inr (x, other) ↦ inr (none other)
]
  where
    none : k ≢ 1 → (what : Lax) → ¬ IsLaxAt m s w what
    none other CapabilityPad h = search (rules, one_lead)
    none other what h = search (rules, same_lead)

-- a list is empty, or isn't
empty_decided : (xs : List ℕ) → (xs ≡ []) ⊎ (xs ≢ [])
empty_decided [] = inl refl
empty_decided (x ∷ xs) = inr (λ e. absurd (cc e))

-- what leads to an object
object_decided : (m : List (List ℕ)) (s w k t b q : ℕ) → Finds m s w k t b q → LaxOrNot m s w
object_decided m s w k t b q f = elim (empty_decided (segment_of m t)) [
  | inl e ↦ inl (EmptySegment, (k, t, b, q, f, e))
  | inr some ↦ inr (none some)
]
  where
    none : segment_of m t ≢ [] → (what : Lax) → ¬ IsLaxAt m s w what
    none some EmptySegment (k', t', b', q', f', e) =
        let o = one_object m s w k' t' b' q' k t b q f' f in some (rw o.segment at e)
    none some what h = search (rules, same_lead)

-- Whether a word of a message has one of these forms is decided.
pub lax_decided : (m : List (List ℕ)) (s w p : ℕ) → HasWord m s w p → LaxOrNot m s w
lax_decided m s w p h = by_fate (fate m s w p h)
  where
    by_fate : Fate m s w → LaxOrNot m s w
    by_fate (inl (v, wrong)) = inr (wrong_not_lax m s w v wrong)
    by_fate (inr (inl (k, leads))) = null_decided m s w k leads
    by_fate (inr (inr (inl (k, i, leads)))) = cap_decided m s w k i leads
    by_fate (inr (inr (inr (k, t, b, q, f)))) = object_decided m s w k t b q f
