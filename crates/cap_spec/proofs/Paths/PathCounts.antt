-- The pointers and the capabilities of the tree that the root denotes are as many as the paths that reach them.
use Rattle.cap_spec.specs.Paths.{IsFirst}
use Rattle.cap_spec.proofs.Paths.Arrivals.{found_form, lead_word, part_to_step, step_to_part}
use Rattle.cap_spec.proofs.Paths.PathLists.{Needs, caps_listed, is_cap, is_pointer, is_structs, listed_rise}
use Rattle.cap_spec.proofs.Paths.PathLists.{listed_expected, paths_below, pointers_listed, expected_listed, needs_cap}
use Rattle.cap_spec.proofs.Paths.PathLists.{with_own}
use Rattle.cap_spec.proofs.Paths.Preorder.{Before-asymmetric, Before-irreflexive, Rises-first}
use Rattle.cap_spec.proofs.Pointers.Following.{one_lead}
use Rattle.cap_spec.proofs.Pointers.Shapes.{pointers_shape, struct_shape, structs_shape}
use Rattle.cap_spec.proofs.ProofNames.{Bool, List, [], arith, eqb, false, inl, inr, length, ne_eqb, not, refl, subst}
use Rattle.cap_spec.proofs.ProofNames.{sym, true, ℕ, ◌+◌, ◌<◌, ◌↔◌, ◌∷◌, ◌≡◌, Denotes, Lead, Leads, to_cap, IsOneOf}
use Rattle.cap_spec.proofs.ProofNames.{Before, IsFirstCap, PathLeads, Reaches, ReachesCap, Rises, Spot, StepsTo}
use Rattle.cap_spec.proofs.ProofNames.{element, level_of, word, DenotesAt, Tree, cap, cap_count, has_cap, pointer_count}
use Rattle.cap_spec.proofs.ProofNames.{Step, rules, common_steps}
use Rattle.cap_spec.proofs.Trees.OneTree.{Formed, HasForm, formed, number_list, number_struct}

abbrev pub is_element : Spot → Bool
is_element (word s w) = false
is_element (element t b ds ps) = true

-- the parts of a tree of another form than a struct list aren't elements
no_structs : (t : Tree) (n : ℕ) → HasForm t n → n < 10 → is_structs t ≡ false
no_structs t n f lt = search rules

-- and those of a struct list are
all_structs : (t : Tree) → HasForm t 10 → is_structs t ≡ true
all_structs x0 f = search rules

-- a step leads to an element where the tree of the spot is a struct list
pub step_kind : (m : List (List ℕ)) (a : Spot) (step : Step) (b : Spot) (t : Tree) → DenotesAt m a t → StepsTo m a step b
    → is_element b ≡ is_structs t
step_kind m x1 x2 b t h g =
    search (rules, struct_shape, found_form, no_structs, number_struct, pointers_shape, number_list, structs_shape, all_structs)

-- The nodes that a test selects are where walks end,
-- of which the spot's own test gives the same of each spot and its tree.
pub expected_walk : (m : List (List ℕ)) (test : Bool → Tree → Bool) (P : Spot → Type 0)
    → ((a : Spot) (t : Tree) → DenotesAt m a t → test (is_element a) t ≡ true → P a)
    → (a : Spot) (t : Tree) (q : List Step) → DenotesAt m a t → Needs test (is_element a) t q
    → (n : ℕ) × (b : Spot) × PathLeads m a q n b × P b
expected_walk m test P own a t [] h g = (0, a, (refl, refl), own a t h g)
expected_walk m test P own a t (step ∷ path) h g =
    let r = part_to_step m a step t g.0 h g.1 in
    let k = step_kind m a step r.0 t h r.1 in
    let z = expected_walk m test P own r.0 g.0 path r.2 (subst (λ (e : Bool). Needs test e g.0 path) (sym k) g.2) in
    (level_of r.0 + z.0, z.1, (r.0, z.0, r.1, z.2, refl), z.3)

pub walk_expected : (m : List (List ℕ)) (test : Bool → Tree → Bool) (P : Spot → Type 0)
    → ((a : Spot) (t : Tree) → DenotesAt m a t → P a → test (is_element a) t ≡ true)
    → (a : Spot) (t : Tree) (q : List Step) → DenotesAt m a t → (n : ℕ) (b : Spot) → PathLeads m a q n b → P b
    → Needs test (is_element a) t q
walk_expected m test P own a t [] h n b g p = own a t h (subst P g.1 p)
walk_expected m test P own a t (step ∷ path) h n b (mid, below, goes, walks, level) p =
    let r = step_to_part m a step mid t h goes in
    let k = step_kind m a step mid t h goes in
    (r.0, r.1, subst (λ (e : Bool). Needs test e r.0 path) k (walk_expected m test P own mid r.0 path r.2 below b walks p))

-- a spot that is a pointer word
abbrev pub IsWordSpot : Spot → Type 0
IsWordSpot a = (s w : ℕ) × (a ≡ word s w)

-- a pointer word that leads to a capability
abbrev pub IsCapSpot : List (List ℕ) → Spot → Type 0
IsCapSpot m a = (s w k i : ℕ) × (a ≡ word s w) × Leads m s w k (to_cap i)

expected_word : (m : List (List ℕ)) (a : Spot) (t : Tree) → DenotesAt m a t
    → is_pointer (is_element a) t ≡ true → IsWordSpot a
expected_word m x1 t h e = search rules

word_expected : (m : List (List ℕ)) (a : Spot) (t : Tree) → DenotesAt m a t → IsWordSpot a
    → is_pointer (is_element a) t ≡ true
word_expected m a t h p = rw p.2 refl

expected_cap : (m : List (List ℕ)) (a : Spot) (t : Tree) → DenotesAt m a t
    → needs_cap (is_element a) t ≡ true → IsCapSpot m a
expected_cap m (word s w) (cap i) h e = (s, w, h.0, i, refl, h.2.0)
expected_cap m x1 t h e = search rules

-- a tree of the form of a capability is one
cap_form : (t : Tree) → HasForm t 1 → is_cap t ≡ true
cap_form x0 f = search rules

-- what the word at a spot leads to
abbrev LeadsAt : List (List ℕ) → Spot → ℕ → Lead → Type 0
LeadsAt m (word s w) k r = Leads m s w k r
LeadsAt m (element t b ds ps) k r = ⊥

cap_expected : (m : List (List ℕ)) (a : Spot) (t : Tree) → DenotesAt m a t → IsCapSpot m a
    → needs_cap (is_element a) t ≡ true
cap_expected m x1 t h p = search (rules, formed, one_lead, cap_form)

-- the paths to pointer words, and to capabilities
abbrev pub pointer_paths : Tree → List (List Step)
pointer_paths t = with_own true (paths_below is_pointer t)

abbrev pub cap_paths : Tree → List (List Step)
cap_paths t = with_own (is_cap t) (paths_below needs_cap t)

-- The paths that reach a pointer word are exactly the listed ones, where the root denotes the tree.
pub pointer_path_reached : (m : List (List ℕ)) (t : Tree) (c d : ℕ) → Denotes m 0 0 t c d → (q : List Step)
    → IsOneOf q (pointer_paths t) ↔ ((level s w : ℕ) × Reaches m q level s w)
pointer_path_reached m t c d h q = (to, from)
  where
    to : IsOneOf q (pointer_paths t) → (level s w : ℕ) × Reaches m q level s w
    to g =
        let f : Formed m 0 0 t = formed m 0 0 t c d h in
        let p = lead_word m 0 0 f.k f.r f.leads in
        let (n, b, walks, found) = expected_walk m is_pointer IsWordSpot (expected_word m) (word 0 0) t q (c, d, h)
        (listed_expected is_pointer false t q g) in
        let (s, w, is) = found in
        (1 + n, s, w, (p.0, n, p.1, subst (λ (z : Spot). PathLeads m (word 0 0) q n z) is walks, refl))

    from : (level s w : ℕ) × Reaches m q level s w → IsOneOf q (pointer_paths t)
    from (level, s, w, (root, n, has, walks, is)) = expected_listed is_pointer false t q
        (walk_expected m is_pointer IsWordSpot (word_expected m) (word 0 0) t q (c, d, h) n (word s w) walks (s, w, refl))

-- The paths that reach a capability are exactly the listed ones.
pub cap_path_reached : (m : List (List ℕ)) (t : Tree) (c d : ℕ) → Denotes m 0 0 t c d → (q : List Step)
    → IsOneOf q (cap_paths t) ↔ ReachesCap m q
cap_path_reached m t c d h q = (to, from)
  where
    to : IsOneOf q (cap_paths t) → ReachesCap m q
    to g =
        let f : Formed m 0 0 t = formed m 0 0 t c d h in
        let p = lead_word m 0 0 f.k f.r f.leads in
        let (n, b, walks, found) = expected_walk m needs_cap (IsCapSpot m) (expected_cap m) (word 0 0) t q (c, d, h)
        (listed_expected needs_cap false t q g) in
        let (s, w, k, i, is, leads) = found in
        let there : PathLeads m (word 0 0) q n (word s w) = subst (λ (z : Spot). PathLeads m (word 0 0) q n z) is walks in
        (1 + n, s, w, k, i, (p.0, n, p.1, there, refl), leads)

    from : ReachesCap m q → IsOneOf q (cap_paths t)
    from (level, s, w, k, i, (root, n, has, walks, is), leads) = expected_listed needs_cap false t q
        (walk_expected m needs_cap (IsCapSpot m) (cap_expected m) (word 0 0) t q (c, d, h) n (word s w) walks
        (s, w, k, i, refl, leads))

-- There is a rising list of exactly the paths that reach a pointer word, of as many as the tree's pointers,
pub pointers_counted : (m : List (List ℕ)) (t : Tree) (c d : ℕ) → Denotes m 0 0 t c d
    → (paths : List (List Step)) × Rises paths × (length paths ≡ pointer_count t)
    × ((q : List Step) → IsOneOf q paths ↔ ((level s w : ℕ) × Reaches m q level s w))
pointers_counted m t c d h = (
  pointer_paths t,
  listed_rise is_pointer false t,
  pointers_listed t,
  pointer_path_reached m t c d h,
)

-- and one of exactly those that reach a capability, of as many as its capabilities.
pub caps_counted : (m : List (List ℕ)) (t : Tree) (c d : ℕ) → Denotes m 0 0 t c d
    → (paths : List (List Step)) × Rises paths × (length paths ≡ cap_count t)
    × ((q : List Step) → IsOneOf q paths ↔ ReachesCap m q)
caps_counted m t c d h = (cap_paths t, listed_rise needs_cap false t, caps_listed false t, cap_path_reached m t c d h)

-- The first of the paths to capabilities is the first in preorder.
first_of : (m : List (List ℕ)) (t : Tree) (c d : ℕ) → Denotes m 0 0 t c d → (paths : List (List Step)) → Rises paths
    → ((q : List Step) → IsOneOf q paths ↔ ReachesCap m q) → 0 < length paths
    → (s w : ℕ) × IsFirstCap m s w
first_of m t c d h [] rises exact some = absurd (omega arith)
first_of m t c d h (p ∷ ps) rises exact some =
    let (level, s, w, k, i, reached, leads) = (exact p).0 (inl refl) in
    let first : IsFirst (ReachesCap m) p = record {
      holds = (level, s, w, k, i, reached, leads);
      first = λ q before reaches. late q before ((exact q).1 reaches);
    } in
    (s, w, record { path = p; level = level; reached = reached; first = first })
  where
    late : (q : List Step) → Before q p → IsOneOf q (p ∷ ps) → ⊥
    late q b (inl e) = Before-irreflexive p (rw e at b)
    late q b (inr e) = Before-asymmetric p q (Rises-first p ps q rises e) b

-- a number isn't 0
more_than_none : (n : ℕ) → not (eqb n 0) ≡ true → 0 < n
more_than_none x0 e = search rules

not_none : (n : ℕ) → 0 < n → not (eqb n 0) ≡ true
not_none n lt = let e : eqb n 0 ≡ false = ne_eqb n 0 (omega arith) in rw e refl

-- a list with a member isn't empty
member_some : (q : List Step) (ps : List (List Step)) → IsOneOf q ps → 0 < length ps
member_some q x1 i = grind (arith, common_steps)

-- A tree has a capability where some word is the first in preorder that leads to one, and at no other place.
pub first_cap : (m : List (List ℕ)) (t : Tree) (c d : ℕ) → Denotes m 0 0 t c d → (has_cap t ≡ true)
    ↔ ((s w : ℕ) × IsFirstCap m s w)
first_cap m t c d h = (to, from)
  where
    to : has_cap t ≡ true → (s w : ℕ) × IsFirstCap m s w
    to e = first_of m t c d h (cap_paths t) (listed_rise needs_cap false t) (cap_path_reached m t c d h)
        (omega (arith, caps_listed false t, more_than_none (cap_count t) e))

    from : (s w : ℕ) × IsFirstCap m s w → has_cap t ≡ true
    from g =
        let f = g.2 in
        let i = (cap_path_reached m t c d h f.path).1 f.first.holds in
        not_none (cap_count t) (omega (arith, caps_listed false t, member_some f.path (cap_paths t) i))
