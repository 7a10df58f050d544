-- What an object brings to a walk: its children, its cost, and how deep it goes.
use Rattle.cap_spec.proofs.Lemmas.{extent_pointers, extent_struct, extent_structs, extra_same, lead_kind, one_found}
use Rattle.cap_spec.proofs.Lemmas.{scalars_found}
use Rattle.cap_spec.proofs.ProofNames.{List, [], ap, arith, false, length, length-append, map, max, refl, subst, suc}
use Rattle.cap_spec.proofs.ProofNames.{zero, ℕ, ◌*◌, ◌++◌, ◌+◌, ◌<◌, ◌==◌, ◌∷◌, ◌≡◌, ◌≤◌, eqb_tells, Finds}
use Rattle.cap_spec.proofs.ProofNames.{element_levels, IsComposite, extra, HasWord, PathLeads, Reaches, rules, Spot}
use Rattle.cap_spec.proofs.ProofNames.{StepsTo, word, code, data_size, extent, kind, list_size, middle, pointer_size}
use Rattle.cap_spec.proofs.ProofNames.{levels_below}
use Rattle.cap_walk.specs.Owing.{AreInLevels}
use Rattle.cap_walk.specs.WalkNames.{Step, Item, Ptr, object_children, object_places, element_places, pointer_word_of}
use Rattle.cap_walk.specs.WalkNames.{row_places, Ahead, element_rows, row}
use Rattle.cap_walk.proofs.Children.{no_children, pointers_children, struct_children}
use Rattle.cap_walk.proofs.Counting.{Counts}
use Rattle.cap_walk.proofs.Elements.{structs_children}
use Rattle.cap_walk.proofs.Runs.{places-elements, places-row}
use Rattle.cap_walk.proofs.Steps.{pointers-counts, scalars-counts, struct-counts, structs-counts}
use Rattle.cap_walk.proofs.Trails.{AreChildren}

length-row : (base : List Step) (level : ℕ) (step : ℕ → Step) (t b i n : ℕ) → length (row base level step t b i n) ≡ n
length-row base level step t b i zero = refl
length-row base level step t b i (suc n) = ap suc (length-row base level step t (b + 1) (i + 1) n)

length-elements : (base : List Step) (level t b ds ps i n : ℕ) → length (element_rows base level t b ds ps i n) ≡ n * ps
length-elements base level t b ds ps i zero = omega arith
length-elements base level t b ds ps i (suc n) = search (rules, length-append, length-row, length-elements base level t (b + ds + ps) ds ps (i + 1) n)

near-row : (base : List Step) (depth level : ℕ) (step : ℕ → Step) (t b i n : ℕ) → 1 ≤ level → level ≤ depth + 1
    → AreInLevels depth (row base level step t b i n)
near-row base depth level step t b i zero h k = tt
near-row base depth level step t b i (suc n) h k = (h, k, near-row base depth level step t (b + 1) (i + 1) n h k)

pub near-append : (depth : ℕ) (xs ys : List Ahead) → AreInLevels depth xs → AreInLevels depth ys → AreInLevels depth (xs ++ ys)
near-append depth [] ys h k = k
near-append depth (a ∷ xs) ys h k = (h.0, h.1, near-append depth xs ys h.2 k)

near-elements : (base : List Step) (depth level t b ds ps i n : ℕ) → 1 ≤ level → level ≤ depth + 1 → AreInLevels depth (element_rows base level t b ds ps i n)
near-elements base depth level t b ds ps i zero h k = tt
near-elements base depth level t b ds ps i (suc n) h k =
    near-append _ _ _ (near-row (base ++ Item i ∷ []) depth level Ptr t (b + ds) 0 ps h k)
    (near-elements base depth level t (b + ds + ps) ds ps (i + 1) n h k)

-- the pointers of the elements of a list are near where the elements are the deepest
near-structs : (base : List Step) (low level t b ds ps n : ℕ) → AreInLevels (max low (level + element_levels n))
    (element_rows base (level + (element_levels 1 + 1)) t b ds ps 0 n)
near-structs base low level t b ds ps zero = tt
near-structs base low level t b ds ps (suc n) = near-elements base (max low (level + element_levels 1))
    (level + (element_levels 1 + 1)) t b ds ps 0 (suc n) (omega arith) (omega arith)

-- what is near stays so where the walk goes deeper
pub near-deeper : (depth deeper : ℕ) (xs : List Ahead) → depth ≤ deeper → AreInLevels depth xs → AreInLevels deeper xs
near-deeper depth deeper [] h k = tt
near-deeper depth deeper (a ∷ xs) h k = (k.0, omega (arith, k.1), near-deeper depth deeper xs h k.2)

-- What an object brings to a walk.
pub record Brings (m : List (List ℕ)) (a : Ahead) (q tag t b cost low deep : ℕ) : Type 0 where
  pub children : AreChildren m a.path (object_children a.path q tag t b a.level)
  pub counts : Counts m a (object_children a.path q tag t b a.level) cost low (max low deep) 0
  pub places : map pointer_word_of (object_children a.path q tag t b a.level) ≡ object_places q tag t b a.level
  pub few : length (object_children a.path q tag t b a.level) ≤ cost
  pub near : AreInLevels (max low deep) (object_children a.path q tag t b a.level)

-- one cost and one depth in place of equal ones
counts-at : {m : List (List ℕ)} {a : Ahead} {children : List Ahead} {cost cost' low low' low'' caps : ℕ} → cost ≡ cost'
    → low' ≡ low'' → Counts m a children cost low low' caps → Counts m a children cost' low low'' caps
counts-at {m} {a} {children} {cost} {low} {low''} {caps} e f h = subst (λ u. Counts m a children u low low'' caps) e
    (subst (λ u. Counts m a children cost low u caps) f h)

struct-brings : (m : List (List ℕ)) (a : Ahead) (k t b q tag low : ℕ) → Reaches m a.path a.level a.segment a.word
    → Finds m a.segment a.word k t b q → kind q ≡ 0
    → Brings m a q tag t b (k + extent q + extra q tag) low (a.level + levels_below q tag)
struct-brings m a k t b q tag low r f e =
    let x : extra q tag ≡ 0 = rw e refl in
    let l : levels_below q tag ≡ 0 = rw e refl in
    let ch : object_children a.path q tag t b a.level ≡ row a.path (a.level + 1) Ptr t (b + data_size q) 0 (pointer_size q) = rw e refl in
    let pl : object_places q tag t b a.level ≡ row_places (a.level + 1) t (b + data_size q) (pointer_size q) = rw e refl in record {
      children = rw ch (struct_children m a.path a.level a.segment a.word k t b q r f e);
      counts = rw ch (counts-at (omega (arith, x)) (omega (arith, l))
          (struct-counts m a k t b q low f e));
      places = rw (ch, pl) (places-row a.path (a.level + 1) Ptr t (b + data_size q) 0 (pointer_size q));
      few = rw ch (omega (arith, length-row a.path (a.level + 1) Ptr t (b + data_size q) 0 (pointer_size q), extent_struct q e));
      near = rw ch (near-row a.path _ _ Ptr t _ 0 (pointer_size q) (omega arith) (omega arith));
    }

-- a list of values has no step to go on by
scalars_end : (m : List (List ℕ)) (s w k t b q : ℕ) → Finds m s w k t b q → kind q ≡ 1 → code q < 6
    → (x : Step) (v : List Step) (mid : Spot) (n s' w' : ℕ) → StepsTo m (word s w) x mid → PathLeads m mid v n (word s' w') → ⊥
scalars_end m s w k t b q f e below h v mid n s' w' g walks = search (rules, one_found, scalars_found)

scalars-brings : (m : List (List ℕ)) (a : Ahead) (k t b q tag low : ℕ) → Reaches m a.path a.level a.segment a.word
    → Finds m a.segment a.word k t b q → kind q ≡ 1
    → (code q == 6) ≡ false → (code q == 7) ≡ false → code q < 6 → Brings m a q tag t b (k + extent q + extra q tag) low (a.level + levels_below q tag)
scalars-brings m a k t b q tag low r f e no_pointers no_structs below =
    let x : extra q tag ≡ extra q 0 = extra_same q tag 0 (omega (arith, e)) (λ g h. absurd (omega (arith, h))) in
    let l : levels_below q tag ≡ 0 = rw (e, no_structs) refl in
    let ch : object_children a.path q tag t b a.level ≡ [] = rw (e, no_pointers, no_structs) refl in
    let pl : object_places q tag t b a.level ≡ [] = rw (e, no_pointers, no_structs) refl in record {
      children = rw ch (no_children r (scalars_end m a.segment a.word k t b q f e below));
      counts = rw ch (counts-at (omega (arith, x)) (omega (arith, l))
          (scalars-counts m a k t b q low f e below));
      places = rw (ch, pl) refl;
      few = rw ch (omega arith);
      near = rw ch tt;
    }

pointers-brings : (m : List (List ℕ)) (a : Ahead) (k t b q tag low : ℕ) → Reaches m a.path a.level a.segment a.word
    → Finds m a.segment a.word k t b q → kind q ≡ 1 → code q ≡ 6
    → Brings m a q tag t b (k + extent q + extra q tag) low (a.level + levels_below q tag)
pointers-brings m a k t b q tag low r f e c =
    let x : extra q tag ≡ 0 = rw (e, c) refl in
    let l : levels_below q tag ≡ 0 = rw (e, c) refl in
    let ch : object_children a.path q tag t b a.level ≡ row a.path (a.level + 1) Item t b 0 (list_size q) = rw (e, c) refl in
    let pl : object_places q tag t b a.level ≡ row_places (a.level + 1) t b (list_size q) = rw (e, c) refl in record {
      children = rw ch (pointers_children m a.path a.level a.segment a.word k t b q r f e c);
      counts = rw ch (counts-at (omega (arith, x)) (omega (arith, l))
          (pointers-counts m a k t b q low f e c));
      places = rw (ch, pl) (places-row a.path (a.level + 1) Item t b 0 (list_size q));
      few = rw ch (omega (arith, length-row a.path (a.level + 1) Item t b 0 (list_size q), extent_pointers q e c));
      near = rw ch (near-row a.path (max low (a.level + levels_below q tag)) (a.level + 1) Item t b 0 (list_size q) (omega arith) (omega arith));
    }

structs-brings : (m : List (List ℕ)) (a : Ahead) (k t b q tag low : ℕ) → Reaches m a.path a.level a.segment a.word
    → Finds m a.segment a.word k t b q → kind q ≡ 1 → code q ≡ 7 → HasWord m t b tag
    → Brings m a q tag t b (k + extent q + extra q tag) low (a.level + levels_below q tag)
structs-brings m a k t b q tag low r f e c has =
    let l : levels_below q tag ≡ element_levels (middle tag) = rw (e, c) refl in
    let ch : object_children a.path q tag t b a.level ≡ element_rows a.path (a.level + (element_levels 1 + 1)) t (b + 1)
    (data_size tag) (pointer_size tag) 0 (middle tag) = rw (e, c) refl in
    let pl : object_places q tag t b a.level ≡ element_places (a.level + (element_levels 1 + 1)) t (b + 1)
    (data_size tag) (pointer_size tag) (middle tag) = rw (e, c) refl in
    record {
      children = rw ch (structs_children m a.path a.level a.segment a.word k t b q tag r f e c has);
      counts = search (rules, counts-at, structs-counts);
      places = rw (ch, pl) (search (rules, places-elements));
      few = search (rules, length-elements, extent_structs);
      near = rw (ch, l) (near-structs a.path low a.level t (b + 1) (data_size tag) (pointer_size tag) (middle tag));
    }

-- the kinds and codes of an object
pub data Cases (q : ℕ) : Type 0 where
  a_struct : kind q ≡ 0 → Cases q
  values : kind q ≡ 1 → (code q == 6) ≡ false → (code q == 7) ≡ false → code q < 6 → Cases q
  a_row : kind q ≡ 1 → code q ≡ 6 → Cases q
  a_table : kind q ≡ 1 → code q ≡ 7 → Cases q

pub cases_of : (m : List (List ℕ)) (s w k t b q : ℕ) → Finds m s w k t b q → Cases q
cases_of m s w k t b q f = search (rules, eqb_tells, lead_kind)

-- what any object brings
pub object-brings : (m : List (List ℕ)) (a : Ahead) (k t b q tag low : ℕ) → Reaches m a.path a.level a.segment a.word
    → Finds m a.segment a.word k t b q → (IsComposite q → HasWord m t b tag)
    → Brings m a q tag t b (k + extent q + extra q tag) low (a.level + levels_below q tag)
object-brings m a k t b q tag low r f tagged = elim (cases_of m a.segment a.word k t b q f) [
  | a_struct e ↦ struct-brings m a k t b q tag low r f e
  | values e g h l ↦ scalars-brings m a k t b q tag low r f e g h l
  | a_row e c ↦ pointers-brings m a k t b q tag low r f e c
  | a_table e c ↦ structs-brings m a k t b q tag low r f e c (tagged (e, c))
]

-- the children are at the object's pointer words
pub object_places-children : (base : List Step) (q tag t b level : ℕ)
    → map pointer_word_of (object_children base q tag t b level) ≡ object_places q tag t b level
object_places-children base q tag t b level = search (rules, places-row, places-elements)
