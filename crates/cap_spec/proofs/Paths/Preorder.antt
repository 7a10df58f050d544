-- Preorder is a strict total order on the paths of one message, and a tour is one list.
use Rattle.cap_spec.specs.Paths.{IsFirst}
use Rattle.cap_spec.proofs.Paths.PathLists.{member_append, member_back, member_front}
use Rattle.cap_spec.proofs.Paths.Walks.{one_kind_of_step, one_reached, one_step}
use Rattle.cap_spec.proofs.ProofNames.{List, [], ap, arith, inl, inr, length, refl, subst, sym, ℕ, ◌++◌, ◌<◌, ◌∙◌, ◌∷◌}
use Rattle.cap_spec.proofs.ProofNames.{◌≡◌, ◌⊎◌, AreDistinct, IsOneOf, Before, IsFirstCap, IsNumbered, IsTour}
use Rattle.cap_spec.proofs.ProofNames.{PathLeads, Reaches, ReachesCap, ReachesSpot, Rises, Spot, StepsTo, number_of}
use Rattle.cap_spec.proofs.ProofNames.{word, Step, common_steps, rules}

-- no path comes before itself
pub Before-irreflexive : (p : List Step) → Before p p → ⊥
Before-irreflexive [] h = h
Before-irreflexive (x ∷ xs) (inl h) = omega arith
Before-irreflexive (x ∷ xs) (inr h) = Before-irreflexive xs h.1

-- what comes before a path comes before those after it
pub Before-trans : (p q r : List Step) → Before p q → Before q r → Before p r
Before-trans [] (y ∷ ys) (z ∷ zs) h g = tt
Before-trans (x ∷ xs) (y ∷ ys) (z ∷ zs) (inl h) (inl g) = inl (omega arith)
Before-trans (x ∷ xs) (y ∷ ys) (z ∷ zs) (inl h) (inr g) = inl (omega (arith, ap number_of g.0))
Before-trans (x ∷ xs) (y ∷ ys) (z ∷ zs) (inr h) (inl g) = inl (omega (arith, ap number_of h.0))
Before-trans (x ∷ xs) (y ∷ ys) (z ∷ zs) (inr h) (inr g) = inr (h.0 ∙ g.0, Before-trans xs ys zs h.1 g.1)
Before-trans p x1 r h g = search rules

-- not both of two paths come before the other
pub Before-asymmetric : (p q : List Step) → Before p q → Before q p → ⊥
Before-asymmetric p q h g = Before-irreflexive p (Before-trans p q p h g)

-- a beginning of a path comes before it
pub Before-longer : (p : List Step) (step : Step) (q : List Step) → Before p (p ++ step ∷ q)
Before-longer [] step q = tt
Before-longer (x ∷ xs) step q = inr (refl, Before-longer xs step q)

-- steps from one spot that have one number are one step
pub same_number : (m : List (List ℕ)) (a : Spot) (x y : Step) (b c : Spot) → StepsTo m a x b → StepsTo m a y c
    → number_of x ≡ number_of y → x ≡ y
same_number m a x y b c g h e = search (rules, one_kind_of_step)

-- two numbers are in one of three ways
three_ways : (x y : ℕ) → (x ≡ y) ⊎ (x < y) ⊎ (y < x)
three_ways x y = grind arith

-- of two paths that lead to some place from one spot, they are one, or one comes before the other
pub Before-total : (m : List (List ℕ)) (a : Spot) (p q : List Step) (n n' : ℕ) (b c : Spot) → PathLeads m a p n b
    → PathLeads m a q n' c → (p ≡ q) ⊎ Before p q ⊎ Before q p
Before-total m a [] [] n n' b c g h = inl refl
Before-total m a [] (y ∷ q) n n' b c g h = inr (inl tt)
Before-total m a (x ∷ p) [] n n' b c g h = inr (inr tt)
Before-total m a (x ∷ p) (y ∷ q) n n' b c (mid, below, goes, walks, level) (mid', below', goes', walks', level') =
    elim (three_ways (number_of x) (number_of y)) [
      | inl e ↦
          let f : x ≡ y = same_number m a x y mid mid' goes goes' e in
          let k : mid ≡ mid' = one_step m a y mid mid' (rw f at goes) goes' in
          elim (Before-total m mid' p q below below' b c (rw k at walks) walks') [
            | inl g ↦ inl cc
            | inr (inl g) ↦ inr (inl (inr (f, g)))
            | inr (inr g) ↦ inr (inr (inr (sym f, g)))
          ]
      | inr (inl e) ↦ inr (inl (inl e))
      | inr (inr e) ↦ inr (inr (inl e))
    ]

-- so it is of two paths that come to spots of one message
pub Before-total_coming : (m : List (List ℕ)) (p q : List Step) (l l' : ℕ) (b c : Spot) → ReachesSpot m p l b → ReachesSpot m q l' c
    → (p ≡ q) ⊎ Before p q ⊎ Before q p
Before-total_coming m p q l l' b c g h = Before-total m (word 0 0) p q g.1 h.1 b c g.3 h.3

-- the first of a rising list comes before the others
pub Rises-first : (p : List Step) (ps : List (List Step)) (q : List Step) → Rises (p ∷ ps) → IsOneOf q ps → Before p q
Rises-first p (x ∷ xs) q h (inl e) = subst (λ (z : List Step). Before p z) (sym e) h.0
Rises-first p (x ∷ xs) q h (inr e) = Before-trans p x q h.0 (Rises-first x xs q h.1 e)
Rises-first p [] q h e = absurd e

-- what is left of a rising list rises
pub Rises-rest : (p : List Step) (ps : List (List Step)) → Rises (p ∷ ps) → Rises ps
Rises-rest p x1 h = search rules

-- a path between two lists
pub middle_is_one : (p : List Step) (xs ys : List (List Step)) → IsOneOf p (xs ++ p ∷ ys)
middle_is_one p xs ys = member_back p xs (p ∷ ys) (inl refl)

pub front_is_one : (q p : List Step) (xs ys : List (List Step)) → IsOneOf q (xs ++ p ∷ []) → IsOneOf q (xs ++ p ∷ ys)
front_is_one q p xs ys h = elim (member_append q xs (p ∷ []) h) [
  | inl i ↦ member_front q xs (p ∷ ys) i
  | inr i ↦ search (rules, member_back)
]

pub front_or_back : (q p : List Step) (xs ys : List (List Step)) → IsOneOf q (xs ++ p ∷ ys)
    → IsOneOf q (xs ++ p ∷ []) ⊎ IsOneOf q ys
front_or_back q p xs ys h = grind (arith, common_steps, member_append, member_front, member_back)

-- where the lists rise, the first rises up to it, comes before it, and the second comes after it
pub Rises-front : (xs : List (List Step)) (p : List Step) (ys : List (List Step)) → Rises (xs ++ p ∷ ys)
    → Rises (xs ++ p ∷ [])
Rises-front (x ∷ z ∷ xs) p ys h = (h.0, Rises-front (z ∷ xs) p ys h.1)
Rises-front x0 p ys h = search rules

pub before_middle : (xs : List (List Step)) (p : List Step) (ys : List (List Step)) (q : List Step) → Rises (xs ++ p ∷ ys)
    → IsOneOf q xs → Before q p
before_middle [] p ys q h i = absurd i
before_middle (x ∷ xs) p ys q h (inl e) = search (rules, Rises-first, middle_is_one)
before_middle (x ∷ xs) p ys q h (inr i) = before_middle xs p ys q (Rises-rest x (xs ++ p ∷ ys) h) i

pub after_middle : (xs : List (List Step)) (p : List Step) (ys : List (List Step)) (q : List Step) → Rises (xs ++ p ∷ ys)
    → IsOneOf q ys → Before p q
after_middle [] p ys q h i = Rises-first p ys q h i
after_middle (x ∷ xs) p ys q h i = after_middle xs p ys q (Rises-rest x (xs ++ p ∷ ys) h) i

-- the front of a rising list of paths that are reached, with all those before its last one, is the tour up to that one
pub cut_tour : (m : List (List ℕ)) (xs : List (List Step)) (p : List Step) (ys : List (List Step))
    → Rises (xs ++ p ∷ ys)
    → ((q : List Step) → IsOneOf q (xs ++ p ∷ ys) → (level s w : ℕ) × Reaches m q level s w)
    → ((q : List Step) (level s w : ℕ) → Reaches m q level s w → Before q p → IsOneOf q (xs ++ p ∷ ys))
    → IsTour m p (xs ++ p ∷ [])
cut_tour m xs p ys rises reached all = record {
  rising = Rises-front xs p ys rises;
  reached = λ q i. reached q (front_is_one q p xs ys i);
  all = λ q level s w r k. among q level s w r k;
  none_after = λ q i. elim (member_append q xs (p ∷ []) i) [
    | inl j ↦ inr (before_middle xs p ys q rises j)
    | inr (inl e) ↦ inl e
    | inr (inr j) ↦ absurd j
  ];
}
  where
    among : (q : List Step) (level s w : ℕ) → Reaches m q level s w → (q ≡ p) ⊎ Before q p → IsOneOf q (xs ++ p ∷ [])
    among q level s w r (inl e) = rw e (middle_is_one p xs [])
    among q level s w r (inr b) = elim (front_or_back q p xs ys (all q level s w r b)) [
      | inl i ↦ i
      | inr i ↦ absurd (Before-asymmetric q p b (after_middle xs p ys q rises i))
    ]

-- two rising lists of the same paths are one
pub Rises-same : (ps qs : List (List Step)) → Rises ps → Rises qs → ((x : List Step) → IsOneOf x ps → IsOneOf x qs)
    → ((x : List Step) → IsOneOf x qs → IsOneOf x ps) → ps ≡ qs
Rises-same [] [] g h to from = refl
Rises-same [] (q ∷ qs) g h to from = absurd (from q (inl refl))
Rises-same (p ∷ ps) [] g h to from = absurd (to p (inl refl))
Rises-same (p ∷ ps) (q ∷ qs) g h to from =
    let e : p ≡ q = first (to p (inl refl)) (from q (inl refl)) in
    let r : ps ≡ qs = Rises-same ps qs (Rises-rest p ps g) (Rises-rest q qs h)
    (λ x i. rest p ps q qs x g e i (to x (inr i))) (λ x i. rest q qs p ps x h (sym e) i (from x (inr i))) in
    cc
  where
    first : (p ≡ q) ⊎ IsOneOf p qs → (q ≡ p) ⊎ IsOneOf q ps → p ≡ q
    first (inl e) i = e
    first (inr e) (inl i) = sym i
    first (inr e) (inr i) = absurd (Before-asymmetric p q (Rises-first p ps q g i) (Rises-first q qs p h e))

    rest : (y : List Step) (ys : List (List Step)) (z : List Step) (zs : List (List Step)) (x : List Step)
        → Rises (y ∷ ys) → y ≡ z → IsOneOf x ys
        → (x ≡ z) ⊎ IsOneOf x zs → IsOneOf x zs
    rest y ys z zs x k e i (inl f) = absurd (Before-irreflexive y
        (subst (λ (v : List Step). Before y v) (f ∙ sym e) (Rises-first y ys x k i)))
    rest y ys z zs x k e i (inr f) = f

-- no path is twice in a rising list
pub Rises-distinct : (ps : List (List Step)) → Rises ps → AreDistinct ps
Rises-distinct [] h = tt
Rises-distinct (p ∷ ps) h = (
  (λ i. Before-irreflexive p (Rises-first p ps p h i)),
  Rises-distinct ps (Rises-rest p ps h),
)

-- the tour up to a path is one list
pub one_tour : (m : List (List ℕ)) (p : List Step) (tour tour' : List (List Step)) → IsTour m p tour
    → IsTour m p tour' → tour ≡ tour'
one_tour m p tour tour' g h =
    Rises-same tour tour' g.rising h.rising
    (λ q i. let r = g.reached q i in h.all q r.0 r.1 r.2 r.3 (g.none_after q i))
    (λ q i. let r = h.reached q i in g.all q r.0 r.1 r.2 r.3 (h.none_after q i))

-- of the paths to pointer words one is the first at which P holds
pub one_first : (m : List (List ℕ)) (P : List Step → Type 0) (p q : List Step) (l l' s w s' w' : ℕ) → Reaches m p l s w
    → Reaches m q l' s' w' → IsFirst P p → IsFirst P q → p ≡ q
one_first m P p q l l' s w s' w' g h f f' =
    elim (Before-total_coming m p q l l' (word s w) (word s' w') g h) [
      | inl e ↦ e
      | inr (inl b) ↦ absurd (f'.first p b f.holds)
      | inr (inr b) ↦ absurd (f.first q b f'.holds)
    ]

-- a path reaches one pointer word, of one number
pub one_number : (m : List (List ℕ)) (p q : List Step) (s w n s' w' n' : ℕ) → IsNumbered m p s w n
    → IsNumbered m q s' w' n' → p ≡ q → (s ≡ s') × (w ≡ w') × (n ≡ n')
one_number m p q s w n s' w' n' g h e =
    let r = one_reached m p g.level h.level s w s' w' g.reached (rw e h.reached) in
    let t = one_tour m p g.tour h.tour g.is_tour (rw e h.is_tour) in
    (r.1, r.2, g.count ∙ ap length t ∙ sym h.count)

-- the first capability in preorder is one pointer word
pub one_first_cap : (m : List (List ℕ)) (s w s' w' : ℕ) → IsFirstCap m s w → IsFirstCap m s' w' → (s ≡ s') × (w ≡ w')
one_first_cap m s w s' w' g h =
    let e = one_first m (ReachesCap m) g.path h.path g.level h.level s w s' w' g.reached h.reached g.first h.first in
    let r = one_reached m g.path g.level h.level s w s' w' g.reached (rw e h.reached) in (r.1, r.2)
