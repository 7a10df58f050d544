-- The children of a list of structs on a trail: the pointers of its elements, element by element.
use Rattle.cap_spec.proofs.Lemmas.{one_found, structs_found}
use Rattle.cap_spec.proofs.ProofNames.{List, [], append_assoc, arith, inl, inr, refl, subst, suc, zero, ℕ, ◌*◌, ◌++◌}
use Rattle.cap_spec.proofs.ProofNames.{◌+◌, ◌<◌, ◌∷◌, ◌≡◌, Finds, element_levels, HasWord, PathLeads, Reaches, Spot}
use Rattle.cap_spec.proofs.ProofNames.{StepsTo, element, word, code, data_size, kind, middle, pointer_size, rules}
use Rattle.cap_walk.specs.WalkNames.{Step, Item, Ptr, Ahead, AreReached, EachApart, GoOnFrom, IsUnder, element_rows}
use Rattle.cap_walk.proofs.Apart.{Apart-right, Apart-steps}
use Rattle.cap_walk.proofs.Children.{AreReached-row, EachApart-row, GoOnFrom-row, IsUnder-row, beyond, reaches_on}
use Rattle.cap_walk.proofs.Trails.{AreChildren, AreReached-append, HeadApart, IsUnder-left, IsUnder-right}
use Rattle.cap_walk.proofs.Trails.{append-apart}

go_on-append : (base : List Step) (xs ys : List Ahead) → GoOnFrom base xs → GoOnFrom base ys → GoOnFrom base (xs ++ ys)
go_on-append base [] ys h k = k
go_on-append base (a ∷ xs) ys h k = (h.0, go_on-append base xs ys h.1 k)

-- what goes on from an element goes on from its list
go_on-further : (base : List Step) (y : Step) (xs : List Ahead) → GoOnFrom (base ++ y ∷ []) xs → GoOnFrom base xs
go_on-further base y [] h = tt
go_on-further base y (a ∷ xs) h = search (rules, append_assoc, go_on-further base y xs h.1)

-- pointer j of element i + e
IsUnder-elements : (base : List Step) (level t b ds ps i n e j : ℕ) (v : List Step) → e < n → j < ps
    → IsUnder (base ++ Item (i + e) ∷ Ptr j ∷ v) (element_rows base level t b ds ps i n)
IsUnder-elements base level t b ds ps i zero e j v h l = absurd (omega arith)
IsUnder-elements base level t b ds ps i (suc n) zero j v h l =
    let own = IsUnder-row (base ++ Item i ∷ []) level Ptr t (b + ds) 0 ps j v l in
    search (rules, append_assoc, IsUnder-left)
IsUnder-elements base level t b ds ps i (suc n) (suc e) j v h l = search (rules, IsUnder-right, IsUnder-elements base level t (b + ds + ps) ds ps (i + 1) n e j v (omega arith) l)

go_on-elements : (base : List Step) (level t b ds ps i n : ℕ) → GoOnFrom base (element_rows base level t b ds ps i n)
go_on-elements base level t b ds ps i zero = tt
go_on-elements base level t b ds ps i (suc n) = search (rules, go_on-append, go_on-further, GoOnFrom-row, go_on-elements base level t (b + ds + ps) ds ps (i + 1) n)

-- the elements after one are apart from it
head-elements : (base : List Step) (level t b ds ps i j n : ℕ) → i < j → HeadApart (base ++ Item i ∷ []) (element_rows base level t b ds ps j n)
head-elements base level t b ds ps i j zero h = tt
head-elements base level t b ds zero i j (suc n) h = head-elements base level t (b + ds + 0) ds 0 i (j + 1) n (omega arith)
head-elements base level t b ds (suc ps) i j (suc n) h = Apart-right (base ++ Item i ∷ []) (base ++ Item j ∷ [])
    (Ptr 0 ∷ []) (Apart-steps base (Item i) (Item j) [] [] h)

apart-elements : (base : List Step) (level t b ds ps i n : ℕ) → EachApart (element_rows base level t b ds ps i n)
apart-elements base level t b ds ps i zero = tt
apart-elements base level t b ds ps i (suc n) =
    append-apart _ _ _ (EachApart-row (base ++ Item i ∷ []) level Ptr (λ x. refl) t (b + ds) 0 ps)
    (GoOnFrom-row (base ++ Item i ∷ []) level Ptr t (b + ds) 0 ps)
    (head-elements base level t (b + ds + ps) ds ps i (i + 1) n (omega arith))
    (apart-elements base level t (b + ds + ps) ds ps (i + 1) n)

first_pointer : (base : List Step) (i j : ℕ) → base ++ Item (i + 0) ∷ Ptr j ∷ [] ≡ (base ++ Item i ∷ []) ++ Ptr (0 + j) ∷ []
first_pointer base i j = search (rules, append_assoc)

later_pointer : (base : List Step) (i e j : ℕ) → base ++ Item (i + suc e) ∷ Ptr j ∷ [] ≡ base ++ Item ((i + 1) + e) ∷ Ptr j ∷ []
later_pointer base i e j = let f : i + suc e ≡ (i + 1) + e = omega arith in cc

-- Where each pointer of each element is reached, the rows are.
reached-elements : (m : List (List ℕ)) (base : List Step) (level t b ds ps i n : ℕ)
    → ((e j : ℕ) → e < n → j < ps → Reaches m (base ++ Item (i + e) ∷ Ptr j ∷ []) level t (b + e * (ds + ps) + ds + j))
    → AreReached m (element_rows base level t b ds ps i n)
reached-elements m base level t b ds ps i zero h = tt
reached-elements m base level t b ds ps i (suc n) h =
    AreReached-append m _ _ (AreReached-row m (base ++ Item i ∷ []) level Ptr t (b + ds) 0 ps (λ j l.
    (subst (λ u. Reaches m u level t (b + ds + j)) (first_pointer base i j)
    (subst (λ u. Reaches m (base ++ Item (i + 0) ∷ Ptr j ∷ []) level t u) (omega arith)
    (h 0 j (omega arith) l))))) (reached-elements m base level t (b + ds + ps) ds ps (i + 1) n (λ e j k l.
    (subst (λ u. Reaches m u level t (b + ds + ps + e * (ds + ps) + ds + j)) (later_pointer base i e j)
    (subst (λ u. Reaches m (base ++ Item (i + suc e) ∷ Ptr j ∷ []) level t u) (omega arith)
    (h (suc e) j (omega arith) l)))))

-- two steps, to an element and to a pointer of it
two_steps : (m : List (List ℕ)) (base : List Step) (level s w k t b q tag e j : ℕ) → Reaches m base level s w
    → Finds m s w k t b q → kind q ≡ 1 → code q ≡ 7 → HasWord m t b tag
    → e < middle tag → j < pointer_size tag
    → Reaches m (base ++ Item e ∷ Ptr j ∷ []) (level + (element_levels 1 + 1)) t (b + 1 + e * (data_size tag + pointer_size tag) + data_size tag + j)
two_steps m base level s w k t b q tag e j h f is_list is_structs has l k' =
    let found = structs_found m s w k t b q f tag is_list is_structs has in
    let spot : Spot = element t (b + 1 + e * (data_size tag + pointer_size tag)) (data_size tag) (pointer_size tag) in
    let last : Spot = word t (b + 1 + e * (data_size tag + pointer_size tag) + data_size tag + j) in
    reaches_on m base (Item e) (Ptr j ∷ []) level (element_levels 1 + 1) s w t (b + 1 + e * (data_size tag + pointer_size tag) + data_size tag + j) h
    (spot, 1, inr (k, t, b, q, tag, middle tag, data_size tag, pointer_size tag, found, l, refl), (last, 0, (k', refl), (refl, refl), refl), refl)

-- the children of a list of structs
pub structs_children : (m : List (List ℕ)) (base : List Step) (level s w k t b q tag : ℕ) → Reaches m base level s w
    → Finds m s w k t b q → kind q ≡ 1 → code q ≡ 7 → HasWord m t b tag
    → AreChildren m base (element_rows base (level + (element_levels 1 + 1)) t (b + 1) (data_size tag) (pointer_size tag) 0 (middle tag))
structs_children m base level s w k t b q tag h f is_list is_structs has = record {
  apart = apart-elements base (level + (element_levels 1 + 1)) t (b + 1) (data_size tag) (pointer_size tag) 0 (middle tag);
  go_on = go_on-elements base (level + (element_levels 1 + 1)) t (b + 1) (data_size tag) (pointer_size tag) 0 (middle tag);
  reached = reached-elements m base (level + (element_levels 1 + 1)) t (b + 1) (data_size tag) (pointer_size tag) 0 (middle tag) (λ e j l l'.
      let g : e ≡ 0 + e = omega arith in
      subst (λ u. Reaches m (base ++ Item u ∷ Ptr j ∷ []) (level + (element_levels 1 + 1)) t
      (b + 1 + e * (data_size tag + pointer_size tag) + data_size tag + j)) g
      (two_steps m base level s w k t b q tag e j h f is_list is_structs has l l'));
  complete = λ x v level' s' w' r. let (mid, n, goes, walks) = beyond m base x v s w s' w' h r in under x v mid n s' w' goes walks;
}
  where
    under : (x : Step) (v : List Step) (mid : Spot) (n s' w' : ℕ) → StepsTo m (word s w) x mid → PathLeads m mid v n (word s' w')
        → IsUnder (base ++ x ∷ v) (element_rows base (level + (element_levels 1 + 1)) t (b + 1) (data_size tag) (pointer_size tag) 0 (middle tag))
    under (Ptr i) v mid n s' w' (k', t', b', q', tag', ds, ps, f', l, spot) walks =
        let o = one_found (structs_found m s w k t b q f tag is_list is_structs has) f' in absurd (cc o.kind)
    under (Item i) v mid n s' w' (inl (k', t', b', q', tag', size, f', l, spot)) walks =
        let o = one_found (structs_found m s w k t b q f tag is_list is_structs has) f' in absurd (cc o.kind)
    under (Item i) [] mid n s' w' (inr (k', t', b', q', tag', size, ds, ps, f', l, spot)) walks =
        absurd (cc)
    under (Item i) (Item j ∷ v) mid n s' w' (inr (k', t', b', q', tag', size, ds, ps, f', l, spot)) walks =
        let here = subst (λ u. PathLeads m u (Item j ∷ v) n (word s' w')) spot walks in absurd here.2
    under (Item i) (Ptr j ∷ v) mid n s' w' (inr (k', t', b', q', tag', size, ds, ps, f', l, spot)) walks =
        let here = subst (λ u. PathLeads m u (Ptr j ∷ v) n (word s' w')) spot walks in
        let o = one_found (structs_found m s w k t b q f tag is_list is_structs has) f' in
        let many : middle tag ≡ size = cc o.kind in
        let few : pointer_size tag ≡ ps = cc o.kind in
        let inside : i < middle tag = omega (arith, l, many) in
        let below : j < pointer_size tag = omega (arith, here.2.0, few) in
        let e : 0 + i ≡ i = omega arith in
        subst (λ u. IsUnder (base ++ Item u ∷ Ptr j ∷ v)
        (element_rows base (level + (element_levels 1 + 1)) t (b + 1) (data_size tag) (pointer_size tag) 0
        (middle tag))) e
        (IsUnder-elements base (level + (element_levels 1 + 1)) t (b + 1) (data_size tag) (pointer_size tag) 0 (middle tag) i j v inside below)
