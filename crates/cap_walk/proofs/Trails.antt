-- How a trail goes on.
use Rattle.cap_spec.specs.declared.Step.{Step}
use Rattle.cap_spec.proofs.Paths.Preorder.{Before-longer}
use Rattle.cap_spec.proofs.ProofNames.{List, [], append-nil, inl, inr, subst, sym, ℕ, ◌++◌, ◌∙◌, ◌∷◌, ◌≡◌, ◌⊎◌}
use Rattle.cap_spec.proofs.ProofNames.{IsOneOf, Reaches, rules}
use Rattle.cap_walk.specs.Trails.{Ahead, Apart, AreReached, EachApart, Falls, GoOnFrom, IsTrail, IsUnder, Precedes}
use Rattle.cap_walk.proofs.Apart.{Apart-left, apart-before}

-- what is under one of two lists is under both together
pub IsUnder-left : (q : List Step) (xs ys : List Ahead) → IsUnder q xs → IsUnder q (xs ++ ys)
IsUnder-left q [] ys h = absurd h
IsUnder-left q (a ∷ xs) ys (inl h) = inl h
IsUnder-left q (a ∷ xs) ys (inr h) = inr (IsUnder-left q xs ys h)

pub IsUnder-right : (q : List Step) (xs ys : List Ahead) → IsUnder q ys → IsUnder q (xs ++ ys)
IsUnder-right q [] ys h = h
IsUnder-right q (a ∷ xs) ys h = inr (IsUnder-right q xs ys h)

pub AreReached-append : (m : List (List ℕ)) (xs ys : List Ahead) → AreReached m xs → AreReached m ys → AreReached m (xs ++ ys)
AreReached-append m [] ys h k = k
AreReached-append m (a ∷ xs) ys h k = (h.0, AreReached-append m xs ys h.1 k)

-- the first of these, where there is one, is apart from a path
abbrev pub HeadApart : List Step → List Ahead → Type 0
HeadApart base [] = Unit {0}
HeadApart base (b ∷ rest) = Apart base b.path

pub append-apart : (base : List Step) (xs ys : List Ahead) → EachApart xs → GoOnFrom base xs → HeadApart base ys → EachApart ys → EachApart (xs ++ ys)
append-apart base (a ∷ c ∷ xs) ys h g k l = (h.0, append-apart base (c ∷ xs) ys h.1 g.1 k l)
append-apart base xs ys h g k l = search (rules, Apart-left)

-- the children of the head, and then what was ahead after it
pub apart-step : (a : Ahead) (children ahead : List Ahead) → EachApart (a ∷ ahead) → EachApart children → GoOnFrom a.path children
    → EachApart (children ++ ahead)
apart-step a children [] h k g = append-apart a.path children [] k g tt tt
apart-step a children (b ∷ ahead) h k g = append-apart a.path children (b ∷ ahead) k g h.0 h.1

precedes-step : (a : Ahead) (seen : List (List Step)) (children ahead : List Ahead) → EachApart (a ∷ ahead)
    → GoOnFrom a.path children → Precedes (a.path ∷ seen) (children ++ ahead)
precedes-step a seen [] [] h g = tt
precedes-step a seen children ahead h g = search (rules, apart-before, Before-longer)

-- a path under a list is under one whose first member is looked at and replaced by its children, or is that member
complete-step : (a : Ahead) (seen : List (List Step)) (children ahead : List Ahead) (q : List Step)
    → ((x : Step) (v : List Step) → q ≡ a.path ++ x ∷ v → IsUnder q children)
    → IsOneOf q seen ⊎ IsUnder q (a ∷ ahead) → IsOneOf q (a.path ∷ seen) ⊎ IsUnder q (children ++ ahead)
complete-step a seen children ahead q beyond (inl h) = inl (inr h)
complete-step a seen children ahead q beyond (inr (inl ([], e))) = inl (inl (e ∙ append-nil a.path))
complete-step a seen children ahead q beyond (inr (inl (x ∷ v, e))) = inr (IsUnder-left q children ahead (beyond x v e))
complete-step a seen children ahead q beyond (inr (inr h)) = inr (IsUnder-right q children ahead h)

pub falls-step : (a : Ahead) (seen : List (List Step)) (ahead : List Ahead) → Falls seen → Precedes seen (a ∷ ahead) → Falls (a.path ∷ seen)
falls-step a seen ahead h k = search rules

-- What lies after a pointer word: its children, in order, and nothing else that a path reaches.
pub record AreChildren (m : List (List ℕ)) (base : List Step) (children : List Ahead) : Type 0 where
  pub apart : EachApart children
  pub go_on : GoOnFrom base children
  pub reached : AreReached m children
  pub complete : (x : Step) (v : List Step) (level s w : ℕ) → Reaches m (base ++ x ∷ v) level s w → IsUnder (base ++ x ∷ v) children

pub reached-step : (m : List (List ℕ)) (seen : List (List Step)) (a : Ahead) (ahead : List Ahead) → IsTrail m seen (a ∷ ahead)
    → (q : List Step) → IsOneOf q (a.path ∷ seen) → (level s w : ℕ) × Reaches m q level s w
reached-step m seen a ahead t q (inl e) = (a.level, a.segment, a.word, rw e t.ahead_reached.0)
reached-step m seen a ahead t q (inr h) = t.seen_reached q h

-- The first word ahead is looked at, and its children come before the others.
pub trail-step : {m : List (List ℕ)} {seen : List (List Step)} {a : Ahead} {children ahead : List Ahead}
    → IsTrail m seen (a ∷ ahead) → AreChildren m a.path children → IsTrail m (a.path ∷ seen) (children ++ ahead)
trail-step {m} {seen} {a} {children} {ahead} t c = record {
  falls = falls-step a seen ahead t.falls t.precedes;
  precedes = precedes-step a seen children ahead t.apart c.go_on;
  apart = apart-step a children ahead t.apart c.apart c.go_on;
  seen_reached = reached-step m seen a ahead t;
  ahead_reached = AreReached-append m children ahead c.reached t.ahead_reached.1;
  complete = λ q level s w h. complete-step a seen children ahead q
      (λ x v e. subst (λ u. IsUnder u children) (sym e)
      (c.complete x v level s w (subst (λ u. Reaches m u level s w) e h))) (t.complete q level s w h);
}
