-- Where no pointer overlaps, the tree is disjoint, and the other way round. One pointer is the first that overlaps.
use Rattle.cap_spec.proofs.ProofNames.{rules, List, [], inl, inr, subst, ℕ, ◌∷◌, ◌≡◌, ◌⊎◌, AreDistinct, IsOneOf}
use Rattle.cap_spec.proofs.ProofNames.{IsDisjoint, IsFirstOverlap, Occupies, Overlaps, on_earlier, on_root, twice}
use Rattle.cap_spec.proofs.ProofNames.{Before, word, Step}
use Rattle.cap_spec.proofs.Frames.Messages.{one_word}
use Rattle.cap_spec.proofs.Paths.Preorder.{Before-irreflexive, Before-total_coming, one_first, one_number}
use Rattle.cap_spec.proofs.Pointers.Following.{one_lead}
use Rattle.cap_spec.proofs.Trees.Finding.{one_object}

-- a place is one of these, or isn't
place_decided : (x : ℕ × ℕ) (xs : List (ℕ × ℕ)) → IsOneOf x xs ⊎ (IsOneOf x xs → ⊥)
place_decided x [] = inr (λ h. h)
place_decided (s, w) ((t, b) ∷ ys) = search (rules, place_decided (s, w) ys)

apart_decided : (xs : List (ℕ × ℕ)) → AreDistinct xs ⊎ (AreDistinct xs → ⊥)
apart_decided [] = inl tt
apart_decided (x ∷ xs) = search (rules, place_decided, apart_decided xs)

-- following a pointer uses one list of places
pub one_used : (m : List (List ℕ)) (s w : ℕ) (used used' : List (ℕ × ℕ)) → Occupies m s w used
    → Occupies m s w used' → used ≡ used'
one_used m s w used used' a b = search (rules, one_word, one_lead, one_object)

-- where no pointer overlaps, no place is used twice
pub disjoint_of_none : (m : List (List ℕ)) → ((p : List Step) → Overlaps m p → ⊥) → IsDisjoint m
disjoint_of_none m none = record {
  root = λ path u. none path (on_root u);
  each = λ path level s w used r o. elim (apart_decided used) [
    | inl h ↦ h
    | inr n ↦ absurd (none path (twice level s w used r o n))
  ];
  apart = λ path other x u v. elim (Before-total_coming m path other u.0 v.0 (word u.1 u.2) (word v.1 v.2) u.4 v.4) [
    | inl e ↦ e
    | inr (inl b) ↦ absurd (none other (on_earlier path x b u v))
    | inr (inr b) ↦ absurd (none path (on_earlier other x b v u))
  ];
}

-- where no place is used twice, no pointer overlaps
pub none_of_disjoint : (m : List (List ℕ)) → IsDisjoint m → (p : List Step) → Overlaps m p → ⊥
none_of_disjoint m d p (twice level s w used r o n) = n (d.each p level s w used r o)
none_of_disjoint m d p (on_root u) = d.root p u
none_of_disjoint m d p (on_earlier other x b u v) =
    Before-irreflexive other (subst (λ y. Before other y) (d.apart p other x v u) b)

-- the first pointer that overlaps is one
pub one_overlap : (m : List (List ℕ)) (s w n s' w' n' : ℕ) → IsFirstOverlap m s w n → IsFirstOverlap m s' w' n'
    → (s ≡ s') × (w ≡ w') × (n ≡ n')
one_overlap m s w n s' w' n' f g = one_number m f.path g.path s w n s' w' n' f.numbered g.numbered
    (search (rules, one_first))
