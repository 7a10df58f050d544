-- A trail up to a path is the tour of it.
use mathlib.Core.List.{reverse_aux}
use Rattle.cap_spec.proofs.Paths.Preorder.{Before-trans}
use Rattle.cap_spec.proofs.ProofNames.{List, [], append-nil, arith, inl, inr, length, refl, reverse, subst, sym, ℕ}
use Rattle.cap_spec.proofs.ProofNames.{◌+◌, ◌∷◌, ◌≡◌, ◌⊎◌, IsOneOf, Before, IsTour, Rises, rules}
use Rattle.cap_walk.specs.WalkNames.{Step, Ahead, Apart, EachApart, Falls, IsTrail, IsUnder}
use Rattle.cap_walk.proofs.Apart.{Apart-right, Apart-trans, longer-differs, not_apart-self, not_before-apart}
use Rattle.cap_walk.proofs.Apart.{not_before-self}
use Rattle.cap_walk.proofs.Trails.{falls-step, reached-step}

-- the paths of the first list, the last one first, before the second
abbrev pub onto : List (List Step) → List (List Step) → List (List Step)
onto [] later = later
onto (p ∷ seen) later = onto seen (p ∷ later)

-- the paths in preorder
abbrev pub in_order : List (List Step) → List (List Step)
in_order seen = onto seen []

-- the paths in preorder are those that were looked at, the other way round
onto-reverse : (seen later : List (List Step)) → onto seen later ≡ reverse_aux seen later
onto-reverse [] later = refl
onto-reverse (p ∷ seen) later = onto-reverse seen (p ∷ later)

pub in_order-reverse : (seen : List (List Step)) → in_order seen ≡ reverse seen
in_order-reverse seen = onto-reverse seen []

-- the head of the first comes before the head of the second
abbrev Joins : List (List Step) → List (List Step) → Type 0
Joins [] later = Unit {0}
Joins (p ∷ seen) [] = Unit {0}
Joins (p ∷ seen) (q ∷ later) = Before p q

joins-next : (p : List Step) (seen later : List (List Step)) → Falls (p ∷ seen) → Joins seen (p ∷ later)
joins-next p seen later h = search rules

falls-next : (p : List Step) (seen : List (List Step)) → Falls (p ∷ seen) → Falls seen
falls-next p seen h = search rules

rises-more : (p : List Step) (seen later : List (List Step)) → Joins (p ∷ seen) later → Rises later → Rises (p ∷ later)
rises-more p seen later h r = search rules

Rises-onto : (seen later : List (List Step)) → Falls seen → Joins seen later → Rises later → Rises (onto seen later)
Rises-onto [] later f j r = r
Rises-onto (p ∷ seen) later f j r = Rises-onto seen (p ∷ later) (falls-next p seen f) (joins-next p seen later f) (rises-more p seen later j r)

pub IsOneOf-onto_right : (q : List Step) (seen later : List (List Step)) → IsOneOf q later → IsOneOf q (onto seen later)
IsOneOf-onto_right q [] later h = h
IsOneOf-onto_right q (p ∷ seen) later h = IsOneOf-onto_right q seen (p ∷ later) (inr h)

pub IsOneOf-onto_left : (q : List Step) (seen later : List (List Step)) → IsOneOf q seen → IsOneOf q (onto seen later)
IsOneOf-onto_left q [] later h = absurd h
IsOneOf-onto_left q (p ∷ seen) later (inl e) = IsOneOf-onto_right q seen (p ∷ later) (inl e)
IsOneOf-onto_left q (p ∷ seen) later (inr h) = IsOneOf-onto_left q seen (p ∷ later) h

pub onto-IsOneOf : (q : List Step) (seen later : List (List Step)) → IsOneOf q (onto seen later) → IsOneOf q seen ⊎ IsOneOf q later
onto-IsOneOf q [] later h = inr h
onto-IsOneOf q (p ∷ seen) later h = search (rules, onto-IsOneOf q seen (p ∷ later) h)

-- a path is in the order where it was looked at, and at no other place
pub in_order-IsOneOf : (q : List Step) (seen : List (List Step)) → IsOneOf q (in_order seen) → IsOneOf q seen
in_order-IsOneOf q seen h = elim (onto-IsOneOf q seen [] h) [ inl k ↦ k | inr k ↦ absurd k ]

pub length-onto : (seen later : List (List Step)) → length (onto seen later) ≡ length seen + length later
length-onto [] later = omega arith
length-onto (p ∷ seen) later = let e = length-onto seen (p ∷ later) in omega (arith, e)

pub length-in_order : (seen : List (List Step)) → length (in_order seen) ≡ length seen
length-in_order seen = let e = length-onto seen [] in omega (arith, e)

-- of falling paths the first comes after the others
pub Falls-before : (p q : List Step) (seen : List (List Step)) → Falls (p ∷ seen) → IsOneOf q seen → Before q p
Falls-before p q [] f h = absurd h
Falls-before p q (r ∷ seen) f (inl e) = subst (λ u. Before u p) (sym e) f.0
Falls-before p q (r ∷ seen) f (inr h) = Before-trans q r p (Falls-before r q seen f.1 h) f.0

-- the head is apart from all that lies under the others
pub Apart-under : (a : Ahead) (q : List Step) (ahead : List Ahead) → EachApart (a ∷ ahead) → IsUnder q ahead → Apart a.path q
Apart-under a q [] h k = absurd k
Apart-under a q (b ∷ ahead) h (inl (rest, e)) = subst (Apart a.path) (sym e) (Apart-right a.path b.path rest h.0)
Apart-under a q (b ∷ ahead) h (inr k) = Apart-trans a.path b.path q h.0 (Apart-under b q ahead h.1 k)

-- what a path reaches up to the head of what is ahead was looked at, or is the head
pub up_to_head : (a : Ahead) (seen : List (List Step)) (ahead : List Ahead) (q : List Step) → EachApart (a ∷ ahead)
    → IsOneOf q seen ⊎ IsUnder q (a ∷ ahead) → (q ≡ a.path) ⊎ Before q a.path → IsOneOf q (a.path ∷ seen)
up_to_head a seen ahead q apart h k = search (rules, append-nil, longer-differs, not_before-self, not_apart-self, Apart-under, not_before-apart)

none_after-head : (a : Ahead) (seen : List (List Step)) (q : List Step) → Falls (a.path ∷ seen) → IsOneOf q (a.path ∷ seen) → (q ≡ a.path) ⊎ Before q a.path
none_after-head a seen q f h = search (rules, Falls-before)

-- What was looked at and the head of what is ahead are the tour of the head.
pub tour_of : (m : List (List ℕ)) (seen : List (List Step)) (a : Ahead) (ahead : List Ahead)
    → IsTrail m seen (a ∷ ahead) → IsTour m a.path (in_order (a.path ∷ seen))
tour_of m seen a ahead t =
    let falls = falls-step a seen ahead t.falls t.precedes in record {
      rising = Rises-onto (a.path ∷ seen) [] falls tt tt;
      reached = λ q h. reached-step m seen a ahead t q (in_order-IsOneOf q (a.path ∷ seen) h);
      all = λ q level s w r k. IsOneOf-onto_left q (a.path ∷ seen) [] (up_to_head a seen ahead q t.apart (t.complete q level s w r) k);
      none_after = λ q h. none_after-head a seen q falls (in_order-IsOneOf q (a.path ∷ seen) h);
    }
