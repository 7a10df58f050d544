-- The order of paths: which come before which, and which are apart.
use Rattle.cap_spec.proofs.ProofNames.{rules, List, [], ap, arith, inl, inr, refl, subst, sym, ◌++◌, ◌<◌, ◌∙◌, ◌∷◌}
use Rattle.cap_spec.proofs.ProofNames.{◌≡◌}
use Rattle.cap_spec.specs.Paths.{Before, number_of}
use Rattle.cap_walk.specs.WalkNames.{Step, Apart}

-- the first comes before the second
pub apart-before : (p q : List Step) → Apart p q → Before p q
apart-before (x ∷ xs) (y ∷ ys) (inl h) = inl h
apart-before (x ∷ xs) (y ∷ ys) (inr h) = inr (h.0, apart-before xs ys h.1)
apart-before p q h = search rules

-- what goes on from the first is apart from the second
pub Apart-left : (p q v : List Step) → Apart p q → Apart (p ++ v) q
Apart-left (x ∷ xs) (y ∷ ys) v (inl h) = inl h
Apart-left (x ∷ xs) (y ∷ ys) v (inr h) = inr (h.0, Apart-left xs ys v h.1)
Apart-left p q v h = search rules

-- the first is apart from what goes on from the second
pub Apart-right : (p q v : List Step) → Apart p q → Apart p (q ++ v)
Apart-right (x ∷ xs) (y ∷ ys) v (inl h) = inl h
Apart-right (x ∷ xs) (y ∷ ys) v (inr h) = inr (h.0, Apart-right xs ys v h.1)
Apart-right p q v h = search rules

-- two paths that go on from one by steps of different numbers are apart
pub Apart-steps : (p : List Step) (x y : Step) (v w : List Step) → number_of x < number_of y → Apart (p ++ x ∷ v) (p ++ y ∷ w)
Apart-steps [] x y v w h = inl h
Apart-steps (z ∷ p) x y v w h = inr (refl, Apart-steps p x y v w h)

pub Apart-trans : (p q r : List Step) → Apart p q → Apart q r → Apart p r
Apart-trans [] q r h k = absurd h
Apart-trans (x ∷ xs) [] r h k = absurd h
Apart-trans (x ∷ xs) (y ∷ ys) [] h k = absurd k
Apart-trans (x ∷ xs) (y ∷ ys) (z ∷ zs) (inl h) (inl k) = inl (omega arith)
Apart-trans (x ∷ xs) (y ∷ ys) (z ∷ zs) (inl h) (inr k) = inl (subst (λ u. number_of x < number_of u) k.0 h)
Apart-trans (x ∷ xs) (y ∷ ys) (z ∷ zs) (inr h) (inl k) = inl (subst (λ u. number_of u < number_of z) (sym h.0) k)
Apart-trans (x ∷ xs) (y ∷ ys) (z ∷ zs) (inr h) (inr k) = inr (h.0 ∙ k.0, Apart-trans xs ys zs h.1 k.1)

-- nothing that goes on from a path comes before it
pub not_before-self : (p v : List Step) → Before (p ++ v) p → ⊥
not_before-self [] v h = h
not_before-self (x ∷ p) v (inl h) = omega arith
not_before-self (x ∷ p) v (inr h) = not_before-self p v h.1

-- no path is apart from itself
pub not_apart-self : (p : List Step) → Apart p p → ⊥
not_apart-self [] h = h
not_apart-self (x ∷ p) (inl h) = omega arith
not_apart-self (x ∷ p) (inr h) = not_apart-self p h.1

-- of two paths that are apart the second doesn't come before the first
pub not_before-apart : (p q : List Step) → Apart p q → Before q p → ⊥
not_before-apart [] q h k = k
not_before-apart (x ∷ xs) [] h k = h
not_before-apart (x ∷ xs) (y ∷ ys) (inl h) (inl k) = omega arith
not_before-apart (x ∷ xs) (y ∷ ys) (inl h) (inr k) = let e = ap number_of k.0 in omega arith
not_before-apart (x ∷ xs) (y ∷ ys) (inr h) (inl k) = let e = ap number_of h.0 in omega arith
not_before-apart (x ∷ xs) (y ∷ ys) (inr h) (inr k) = not_before-apart xs ys h.1 k.1

-- a path that goes on by a step isn't the path itself
pub longer-differs : (p : List Step) (x : Step) (v : List Step) → p ++ x ∷ v ≡ p → ⊥
longer-differs [] x v e = cc
longer-differs (y ∷ p) x v e = search (rules, longer-differs p x v cc)
