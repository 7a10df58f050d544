-- The children of a pointer word on a trail.
use Rattle.cap_spec.proofs.Lemmas.{one_found, pointers_found, struct_found}
use Rattle.cap_spec.proofs.Paths.Walks.{comes_beyond, walk_on}
use Rattle.cap_spec.proofs.ProofNames.{List, [], append_assoc, arith, inl, inr, refl, subst, suc, sym, zero, ℕ, ◌++◌}
use Rattle.cap_spec.proofs.ProofNames.{◌+◌, ◌<◌, ◌∷◌, ◌≡◌, Finds, PathLeads, Reaches, Spot, StepsTo, number_of, word}
use Rattle.cap_spec.proofs.ProofNames.{code, data_size, kind, list_size, pointer_size, rules}
use Rattle.cap_walk.specs.WalkNames.{Step, Item, Ptr, AreReached, EachApart, GoOnFrom, IsUnder, row}
use Rattle.cap_walk.proofs.Apart.{Apart-steps}
use Rattle.cap_walk.proofs.Trails.{AreChildren}

-- what reaches a pointer word after one that is reached goes on from it by steps of its own
pub beyond : (m : List (List ℕ)) (base : List Step) (x : Step) (v : List Step) {level level' : ℕ} (s w s' w' : ℕ)
    → Reaches m base level s w → Reaches m (base ++ x ∷ v) level' s' w'
    → (mid : Spot) × (n : ℕ) × StepsTo m (word s w) x mid × PathLeads m mid v n (word s' w')
beyond m base x v {level} {level'} s w s' w' g h =
    let here = (comes_beyond m base (x ∷ v) level level' (word s w) (word s' w') g h).1 in
    (here.0, here.1, here.2, here.3)

-- a path goes on by a step
pub reaches_on : (m : List (List ℕ)) (base : List Step) (x : Step) (v : List Step) (level n s w s' w' : ℕ)
    → Reaches m base level s w → PathLeads m (word s w) (x ∷ v) n (word s' w') → Reaches m (base ++ x ∷ v) (level + n) s' w'
reaches_on m base x v level n s w s' w' (root, k, has, walks, e) on =
    (root, k + n, has, walk_on m (word 0 0) (word s w) (word s' w') base (x ∷ v) k n walks on, omega (arith, e))

-- Each number below n is 0 more than it, or is below the rest.
-- the step i + j of a row
pub IsUnder-row : (base : List Step) (level : ℕ) (step : ℕ → Step) (t b i n j : ℕ) (v : List Step) → j < n
    → IsUnder (base ++ step (i + j) ∷ v) (row base level step t b i n)
IsUnder-row base level step t b i zero j v h = absurd (omega arith)
IsUnder-row base level step t b i (suc n) zero v h = inl (
  v,
  subst (λ u. base ++ step u ∷ v ≡ (base ++ step i ∷ []) ++ v) (omega arith)
      (sym (append_assoc base (step i ∷ []) v)),
)
IsUnder-row base level step t b i (suc n) (suc j) v h =
    search (rules, IsUnder-row base level step t (b + 1) (i + 1) n j v (omega arith))

pub GoOnFrom-row : (base : List Step) (level : ℕ) (step : ℕ → Step) (t b i n : ℕ) → GoOnFrom base (row base level step t b i n)
GoOnFrom-row base level step t b i zero = tt
GoOnFrom-row base level step t b i (suc n) = ((step i, [], refl), GoOnFrom-row base level step t (b + 1) (i + 1) n)

-- A row of steps whose numbers rise is apart.
pub EachApart-row : (base : List Step) (level : ℕ) (step : ℕ → Step) → ((i : ℕ) → number_of (step i) ≡ i) → (t b i n : ℕ)
    → EachApart (row base level step t b i n)
EachApart-row base level step e t b i (suc (suc n)) =
    (Apart-steps base (step i) (step (i + 1)) [] [] (omega (arith, e i, e (i + 1))), EachApart-row base level step e t (b + 1) (i + 1) (suc n))
EachApart-row base level step e t b i h = search rules

-- each step of a row reaches its word
pub AreReached-row : (m : List (List ℕ)) (base : List Step) (level : ℕ) (step : ℕ → Step) (t b i n : ℕ)
    → ((j : ℕ) → j < n → Reaches m (base ++ step (i + j) ∷ []) level t (b + j)) → AreReached m (row base level step t b i n)
AreReached-row m base level step t b i zero h = tt
AreReached-row m base level step t b i (suc n) h = (
  subst (λ u. Reaches m (base ++ step u ∷ []) level t b) (omega arith)
      (subst (λ u. Reaches m (base ++ step (i + 0) ∷ []) level t u) (omega arith) (h 0 (omega arith))),
  AreReached-row m base level step t (b + 1) (i + 1) n (λ j k.
      let e : i + suc j ≡ (i + 1) + j = omega arith in
      let f : b + suc j ≡ (b + 1) + j = omega arith in
      rw (← e) (subst (λ u. Reaches m (base ++ step (i + suc j) ∷ []) level t u) f (h (suc j) (omega arith)))),
)

-- one step that leads to a pointer word
pub one_step : (m : List (List ℕ)) (base : List Step) (x : Step) (level s w t v : ℕ) → Reaches m base level s w
    → StepsTo m (word s w) x (word t v) → Reaches m (base ++ x ∷ []) (level + 1) t v
one_step m base x level s w t v h g = reaches_on m base x [] level 1 s w t v h (word t v, 0, g, (refl, refl), refl)

-- what has no step to go on by has no children
pub no_children : {m : List (List ℕ)} {base : List Step} {level s w : ℕ} → Reaches m base level s w
    → ((x : Step) (v : List Step) (mid : Spot) (n s' w' : ℕ) → StepsTo m (word s w) x mid → PathLeads m mid v n (word s' w') → ⊥) → AreChildren m base []
no_children {m} {base} {s} {w} h none = record {
  apart = tt;
  go_on = tt;
  reached = tt;
  complete = λ x v level' s' w' k. let (mid, n, goes, walks) = beyond m base x v s w s' w' h k in none x v mid n s' w' goes walks;
}

-- the children of a struct
pub struct_children : (m : List (List ℕ)) (base : List Step) (level s w k t b q : ℕ) → Reaches m base level s w → Finds m s w k t b q → kind q ≡ 0
    → AreChildren m base (row base (level + 1) Ptr t (b + data_size q) 0 (pointer_size q))
struct_children m base level s w k t b q h f e = record {
  apart = EachApart-row base (level + 1) Ptr (λ i. refl) t (b + data_size q) 0 (pointer_size q);
  go_on = GoOnFrom-row base (level + 1) Ptr t (b + data_size q) 0 (pointer_size q);
  reached = AreReached-row m base (level + 1) Ptr t (b + data_size q) 0 (pointer_size q) (λ j l.
      subst (λ u. Reaches m (base ++ Ptr u ∷ []) (level + 1) t (b + data_size q + j)) (omega arith)
      (one_step m base (Ptr j) level s w t (b + data_size q + j) h (k, t, b, q, 0, data_size q, pointer_size q, struct_found m s w k t b q f e, l, refl)));
  complete = λ x v level' s' w' r. let (mid, n, goes, walks) = beyond m base x v s w s' w' h r in under x v mid goes;
}
  where
    under : (x : Step) (v : List Step) (mid : Spot) → StepsTo m (word s w) x mid
        → IsUnder (base ++ x ∷ v) (row base (level + 1) Ptr t (b + data_size q) 0 (pointer_size q))
    under (Ptr i) v mid (k', t', b', q', tag, ds, ps, f', l, spot) =
        let same : pointer_size q ≡ ps = cc (one_found (struct_found m s w k t b q f e) f').kind in
        subst (λ u. IsUnder (base ++ Ptr u ∷ v) (row base (level + 1) Ptr t (b + data_size q) 0 (pointer_size q)))
        (omega arith) (IsUnder-row base _ Ptr t _ 0 _ i v (omega (arith, l, same)))
    under (Item i) v mid (inl (k', t', b', q', tag, n, f', l, spot)) =
        let o = one_found (struct_found m s w k t b q f e) f' in absurd (cc o.kind)
    under (Item i) v mid (inr (k', t', b', q', tag, n, ds, ps, f', l, spot)) =
        let o = one_found (struct_found m s w k t b q f e) f' in absurd (cc o.kind)

-- the children of a list of pointers
pub pointers_children : (m : List (List ℕ)) (base : List Step) (level s w k t b q : ℕ) → Reaches m base level s w
    → Finds m s w k t b q → kind q ≡ 1 → code q ≡ 6
    → AreChildren m base (row base (level + 1) Item t b 0 (list_size q))
pointers_children m base level s w k t b q h f e c = record {
  apart = EachApart-row base (level + 1) Item (λ i. refl) t b 0 (list_size q);
  go_on = GoOnFrom-row base (level + 1) Item t b 0 (list_size q);
  reached = AreReached-row m base (level + 1) Item t b 0 (list_size q) (λ j l.
      subst (λ u. Reaches m (base ++ Item u ∷ []) (level + 1) t (b + j)) (omega arith)
      (one_step m base (Item j) level s w t (b + j) h (inl (k, t, b, q, 0, list_size q, pointers_found m s w k t b q f e c, l, refl))));
  complete = λ x v level' s' w' r. let (mid, n, goes, walks) = beyond m base x v s w s' w' h r in under x v mid goes;
}
  where
    under : (x : Step) (v : List Step) (mid : Spot) → StepsTo m (word s w) x mid → IsUnder (base ++ x ∷ v) (row base (level + 1) Item t b 0 (list_size q))
    under (Ptr i) v mid (k', t', b', q', tag, ds, ps, f', l, spot) =
        let o = one_found (pointers_found m s w k t b q f e c) f' in absurd (cc o.kind)
    under (Item i) v mid (inl (k', t', b', q', tag, n, f', l, spot)) =
        let same : list_size q ≡ n = cc (one_found (pointers_found m s w k t b q f e c) f').kind in
        subst (λ u. IsUnder (base ++ Item u ∷ v) (row base (level + 1) Item t b 0 (list_size q))) (omega arith)
        (IsUnder-row base (level + 1) Item t b 0 (list_size q) i v (omega (arith, l, same)))
    under (Item i) v mid (inr (k', t', b', q', tag, n, ds, ps, f', l, spot)) =
        let o = one_found (pointers_found m s w k t b q f e c) f' in absurd (cc o.kind)
