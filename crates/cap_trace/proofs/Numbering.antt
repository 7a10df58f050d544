-- Of two paths the one with the smaller number comes first.
use Rattle.cap_spec.specs.declared.Step.{Step}
use Rattle.cap_spec.proofs.Paths.Preorder.{Before-irreflexive, Before-total_coming, Before-trans, Rises-first}
use Rattle.cap_spec.proofs.Paths.Preorder.{Rises-rest, one_number}
use Rattle.cap_spec.proofs.ProofNames.{List, [], arith, inl, inr, length, length-append, refl, subst, sym, ℕ, ◌++◌, ◌<◌}
use Rattle.cap_spec.proofs.ProofNames.{◌∷◌, ◌≡◌, ◌≤◌, ◌⊎◌, IsOneOf, Before, IsNumbered, Reaches, Rises, word}
use Rattle.cap_spec.proofs.Verdicts.OneFault.{one_of_last}

-- A rising list of some of the paths of another isn't longer than that.
pub rises_fewer : (ps qs : List (List Step)) → Rises ps → Rises qs → ((x : List Step) → IsOneOf x ps → IsOneOf x qs)
    → length ps ≤ length qs
rises_fewer [] qs h k f = omega arith
rises_fewer (p ∷ ps) [] h k f = absurd (f p (inl refl))
rises_fewer (p ∷ ps) (q ∷ qs) h k f =
    go (f p (inl refl)) (λ rs g t. rises_fewer rs qs g (Rises-rest q qs k) t)
  where
    later : (x : List Step) → Before q x → IsOneOf x (q ∷ qs) → IsOneOf x qs
    later x b (inl e) = absurd (Before-irreflexive q (subst (λ (u : List Step). Before q u) e b))
    later x b (inr i) = i

    after : (x : List Step) → Before q p → IsOneOf x (p ∷ ps) → Before q x
    after x b (inl e) = subst (λ (u : List Step). Before q u) (sym e) b
    after x b (inr i) = Before-trans q p x b (Rises-first p ps x h i)

    go : (p ≡ q) ⊎ IsOneOf p qs
        → ((rs : List (List Step)) → Rises rs → ((x : List Step) → IsOneOf x rs → IsOneOf x qs) → length rs ≤ length qs)
        → length (p ∷ ps) ≤ length (q ∷ qs)
    go (inl e) again =
        let r = again ps (Rises-rest p ps h)
        (λ x i. later x (subst (λ (u : List Step). Before u x) e (Rises-first p ps x h i)) (f x (inr i))) in
        omega (arith, r)
    go (inr i) again =
        let b : Before q p = Rises-first q qs p k i in
        let r = again (p ∷ ps) h (λ x j. later x (after x b j) (f x j)) in
        omega (arith, r)

-- one more path after those of a rising list
pub Rises-last : (ps : List (List Step)) (p : List Step) → Rises ps → ((x : List Step) → IsOneOf x ps → Before x p)
    → Rises (ps ++ p ∷ [])
Rises-last [] p h k = tt
Rises-last (x ∷ []) p h k = (k x (inl refl), tt)
Rises-last (x ∷ y ∷ ps) p h k = (h.0, Rises-last (y ∷ ps) p h.1 (λ z i. k z (inr i)))

-- what is before a path is before a later one
pub before_later : (x p q : List Step) → Before p q → (x ≡ p) ⊎ Before x p → Before x q
before_later x p q b (inl e) = subst (λ (u : List Step). Before u q) (sym e) b
before_later x p q b (inr k) = Before-trans x p q k b

fewer_before : (m : List (List ℕ)) (i j : ℕ) (p q : List Step) (s w s' w' : ℕ) → IsNumbered m p s w i
    → IsNumbered m q s' w' j → Before p q → i < j
fewer_before m i j p q s w s' w' a c b =
    let r = rises_fewer (a.tour ++ q ∷ []) c.tour
    (Rises-last a.tour q a.is_tour.rising (λ x k. before_later x p q b (a.is_tour.none_after x k))) c.is_tour.rising
    (λ x k. among x (one_of_last x q a.tour k)) in
    omega (arith, r, length-append a.tour (q ∷ []), a.count, c.count)
  where
    among : (x : List Step) → (x ≡ q) ⊎ IsOneOf x a.tour → IsOneOf x c.tour
    among x (inl e) =
        c.is_tour.all x c.level s' w'
        (subst (λ (u : List Step). Reaches m u c.level s' w') (sym e) c.reached) (inl e)
    among x (inr k) =
        let r = a.is_tour.reached x k in
        c.is_tour.all x r.0 r.1 r.2 r.3 (inr (before_later x p q b (a.is_tour.none_after x k)))

pub number_order : (m : List (List ℕ)) (i j : ℕ) (p q : List Step) (s w s' w' : ℕ) → IsNumbered m p s w i
    → IsNumbered m q s' w' j → i < j → Before p q
number_order m i j p q s w s' w' a c less =
    go (Before-total_coming m p q a.level c.level (word s w) (word s' w') a.reached c.reached)
  where
    go : (p ≡ q) ⊎ Before p q ⊎ Before q p → Before p q
    go (inl e) = absurd (omega (arith, (one_number m p q s w i s' w' j a c e).2))
    go (inr (inl b)) = b
    go (inr (inr b)) = absurd (omega (arith, fewer_before m j i q p s' w' s w c a b))

pub one_numbered : (m : List (List ℕ)) (n : ℕ) (p q : List Step) {s w s' w' : ℕ} → IsNumbered m p s w n
    → IsNumbered m q s' w' n → p ≡ q
one_numbered m n p q {s} {w} {s'} {w'} a c =
    go (Before-total_coming m p q a.level c.level (word s w) (word s' w') a.reached c.reached)
  where
    go : (p ≡ q) ⊎ Before p q ⊎ Before q p → p ≡ q
    go (inl e) = e
    go (inr (inl b)) = absurd (omega (arith, fewer_before m n n p q s w s' w' a c b))
    go (inr (inr b)) = absurd (omega (arith, fewer_before m n n q p s' w' s w c a b))
