-- The paths that a walk has looked at, in preorder.
use Rattle.cap_spec.specs.declared.Step.{Step}
use Rattle.cap_spec.proofs.Lemmas.{Before-asymmetric, Before-irreflexive, Before-trans, one_of_last}
use Rattle.cap_spec.proofs.Paths.Preorder.{Before-longer, cut_tour, middle_is_one}
use Rattle.cap_spec.proofs.ProofNames.{List, [], append-nil, arith, inl, inr, length, length-append, refl, subst, sym, ℕ, ◌++◌}
use Rattle.cap_spec.proofs.ProofNames.{◌∙◌, ◌∷◌, ◌≡◌, ◌⊎◌, IsOneOf, Before, IsTour, Reaches, Rises}
use Rattle.cap_spec.proofs.Verdicts.OneFault.{last_is_one}
use Rattle.cap_walk.specs.Trails.{Ahead, Apart, EachApart, Falls, IsTrail, IsUnder, Precedes}

-- the paths in preorder, where the last one that was looked at comes first in `seen`
abbrev pub preorder : List (List Step) → List (List Step)
preorder [] = []
preorder (p ∷ seen) = preorder seen ++ p ∷ []

-- they are the same paths
pub preorder_from : (q : List Step) (seen : List (List Step)) → IsOneOf q (preorder seen) → IsOneOf q seen
preorder_from q [] i = i
preorder_from q (p ∷ seen) i = elim (one_of_last q p (preorder seen) i) [
  | inl e ↦ inl e
  | inr j ↦ inr (preorder_from q seen j)
]

pub preorder_to : (q : List Step) (seen : List (List Step)) → IsOneOf q seen → IsOneOf q (preorder seen)
preorder_to q [] i = i
preorder_to q (p ∷ seen) (inl e) =
    subst (λ (u : List Step). IsOneOf u (preorder seen ++ p ∷ [])) (sym e) (middle_is_one p (preorder seen) [])
preorder_to q (p ∷ seen) (inr i) = last_is_one p q (preorder seen) (preorder_to q seen i)

pub length-preorder : (seen : List (List Step)) → length (preorder seen) ≡ length seen
length-preorder [] = refl
length-preorder (p ∷ seen) =
    let e = length-append (preorder seen) (p ∷ []) in let k = length-preorder seen in omega (arith, e, k)

-- a rising list goes on rising with a path that comes after all of it
pub rises_last : (ps : List (List Step)) (p : List Step) → Rises ps → ((q : List Step) → IsOneOf q ps → Before q p) → Rises (ps ++ p ∷ [])
rises_last [] p h k = tt
rises_last (x ∷ []) p h k = (k x (inl refl), tt)
rises_last (x ∷ y ∷ ps) p h k = (h.0, rises_last (y ∷ ps) p h.1 (λ q i. k q (inr i)))

pub falls_rest : (p : List Step) (seen : List (List Step)) → Falls (p ∷ seen) → Falls seen
falls_rest p [] h = tt
falls_rest p (q ∷ seen) h = h.1

falls_on : (a : Ahead) (seen : List (List Step)) (later : List Ahead) → Falls seen → Precedes seen (a ∷ later) → Falls (a.path ∷ seen)
falls_on a [] later h k = tt
falls_on a (p ∷ seen) later h k = (k, h)

-- the last path that was looked at comes after the others
pub seen_before : (p q : List Step) (seen : List (List Step)) → Falls (p ∷ seen) → IsOneOf q seen → Before q p
seen_before p q [] h i = absurd i
seen_before p q (r ∷ seen) h (inl e) = subst (λ (u : List Step). Before u p) (sym e) h.0
seen_before p q (r ∷ seen) h (inr i) = Before-trans q r p (seen_before r q seen h.1 i) h.0

pub preorder_rises : (seen : List (List Step)) → Falls seen → Rises (preorder seen)
preorder_rises [] h = tt
preorder_rises (p ∷ seen) h =
    rises_last (preorder seen) p (preorder_rises seen (falls_rest p seen h)) (λ q i. seen_before p q seen h (preorder_from q seen i))

-- paths that are apart are in order
apart_in_order : (p q : List Step) → Apart p q → Before p q
apart_in_order [] q h = absurd h
apart_in_order (x ∷ xs) [] h = absurd h
apart_in_order (x ∷ xs) (y ∷ ys) (inl h) = inl h
apart_in_order (x ∷ xs) (y ∷ ys) (inr h) = inr (h.0, apart_in_order xs ys h.1)

-- what is under the words ahead is the first of them, or comes after it
under_after : (b : Ahead) (ahead : List Ahead) (q : List Step) → EachApart (b ∷ ahead) → IsUnder q (b ∷ ahead)
    → (b.path ≡ q) ⊎ Before b.path q
under_after b ahead q h (inl ([], e)) = inl (sym (e ∙ append-nil b.path))
under_after b ahead q h (inl (x ∷ v, e)) =
    inr (subst (λ (u : List Step). Before b.path u) (sym e) (Before-longer b.path x v))
under_after b [] q h (inr u) = absurd u
under_after b (c ∷ ahead) q h (inr u) =
    let k : Before b.path c.path = apart_in_order b.path c.path h.0 in
    inr (elim (under_after c ahead q h.1 u) [
      | inl e ↦ subst (λ (u : List Step). Before b.path u) e k
      | inr after ↦ Before-trans b.path c.path q k after
    ])

not_under : (b : Ahead) (ahead : List Ahead) (q : List Step) → EachApart (b ∷ ahead) → IsUnder q (b ∷ ahead) → Before q b.path → ⊥
not_under b ahead q h u before = elim (under_after b ahead q h u) [
  | inl e ↦ Before-irreflexive q (subst (λ (u : List Step). Before q u) e before)
  | inr after ↦ Before-asymmetric q b.path before after
]

-- The paths looked at and the next one are the tour of that.
pub trail_tour : (m : List (List ℕ)) (seen : List (List Step)) (a : Ahead) (later : List Ahead) → IsTrail m seen (a ∷ later)
    → IsTour m a.path (preorder seen ++ a.path ∷ [])
trail_tour m seen a later t =
    cut_tour m (preorder seen) a.path [] (preorder_rises (a.path ∷ seen) (falls_on a seen later t.falls t.precedes))
    (λ q i. reached q (one_of_last q a.path (preorder seen) i)) (λ q level s w r b. all q b (t.complete q level s w r))
  where
    reached : (q : List Step) → (q ≡ a.path) ⊎ IsOneOf q (preorder seen) → (level s w : ℕ) × Reaches m q level s w
    reached q (inl e) = (
      a.level,
      a.segment,
      a.word,
      subst (λ (u : List Step). Reaches m u a.level a.segment a.word) (sym e) t.ahead_reached.0,
    )
    reached q (inr j) = t.seen_reached q (preorder_from q seen j)

    all : (q : List Step) → Before q a.path → IsOneOf q seen ⊎ IsUnder q (a ∷ later) → IsOneOf q (preorder seen ++ a.path ∷ [])
    all q b (inl i) = last_is_one a.path q (preorder seen) (preorder_to q seen i)
    all q b (inr u) = absurd (not_under a later q t.apart u b)
