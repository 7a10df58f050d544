-- What a pointer word denotes is charged at least what following it costs,
-- and one for each of its pointers but the root.
use Rattle.std.proofs.Common.{List, ap, arith, eqb-true, inl, inr, length, refl, suc, zero, ℕ, ℤ, ◌*◌, ◌+◌, ◌<◌, ◌≡◌}
use Rattle.std.proofs.Common.{◌≤◌}
use Rattle.std.proofs.lemmas.Bool.{eqb-false}
use Rattle.cap_spec.specs.Denoting.{AreElements, DenoteEach, Denotes, FindsKind, places}
use Rattle.cap_spec.specs.Following.{Lead, Leads, extra, to_object}
use Rattle.cap_spec.specs.Paths.{Costs}
use Rattle.cap_spec.specs.Pointers.{code, data_size, extent, kind, list_size, pointer_size}
use Rattle.cap_spec.specs.Tree.{Tree, Trees, cap, child_count, child_counts, more, none, null, pointer_count, pointers}
use Rattle.cap_spec.specs.Tree.{scalars, struct, structs, tree_count}
use Rattle.cap_spec.specs.declared.Kind.TheVariants.{Structs}
use Rattle.cap_spec.proofs.Frames.Messages.{one_word}
use Rattle.cap_spec.proofs.Pointers.Following.{one_lead}
use Rattle.cap_spec.proofs.Pointers.Shapes.{pointers_words, struct_words, structs_shape, structs_words}
use Rattle.cap_spec.proofs.Trees.Finding.{found_cost, one_object}
use Rattle.cap_spec.proofs.ProofNames.{rules, common_steps}

-- the extent of a struct, of a list of pointers, and of a composite list
pub extent_struct : (q : ℕ) → kind q ≡ 0 → extent q ≡ data_size q + pointer_size q
extent_struct q e = rw e refl

pub extent_pointers : (q : ℕ) → kind q ≡ 1 → code q ≡ 6 → extent q ≡ list_size q
extent_pointers q e f = rw (e, f) refl

pub extent_structs : (q : ℕ) → kind q ≡ 1 → code q ≡ 7 → extent q ≡ 1 + list_size q
extent_structs q e f = rw (e, f) refl

-- no pads are charged beside what a word denotes, at least
pub pads_charged : (m : List (List ℕ)) (s w : ℕ) (t : Tree) (c d k : ℕ) (r : Lead) → Denotes m s w t c d
    → Leads m s w k r → k ≤ c
pads_charged m s w x3 c d k r h l = search (rules, one_lead)

-- as many places as pointers
pub length-places : (t b n : ℕ) → length (places t b n) ≡ n
length-places t b zero = refl
length-places t b (suc n) = ap suc (length-places t (b + 1) n)

-- the elements that the tag gives lie inside the list
pub elements_fit : {m : List (List ℕ)} {s w n ds ps k t b q tag : ℕ} → FindsKind m s w (Structs n ds ps) k t b q tag
    → n * ds + n * ps ≤ list_size q
elements_fit {m} {s} {w} {n} {ds} {ps} {k} {t} {b} {q} {tag} f = search (rules, structs_shape, one_word)

mutual
  -- each pointer below the root is a word of some object, so that it is charged
  pub children_charged : (m : List (List ℕ)) (s w : ℕ) (t : Tree) (c d : ℕ) → Denotes m s w t c d → child_count t ≤ c
  children_charged m s w null c d h = omega arith
  children_charged m s w (cap i) c d h = omega arith
  children_charged m s w (struct words ts) c d (k, t, b, q, tag, ds, ps, inner, deep, found, own, each) =
      search (rules, length-places, struct_words, each_charged m (places t (b + ds) ps) ts inner deep each)
  children_charged m s w (scalars e values) c d h = omega arith
  children_charged m s w (pointers ts) c d (k, t, b, q, tag, n, inner, deep, found, each) =
      grind (arith, common_steps, length-places, pointers_words, each_charged m (places t b n) ts inner deep each)
  children_charged m s w (structs ds ps es) c d (k, t, b, q, tag, n, inner, deep, found, each) =
      search (rules, elements_fit, structs_words, elements_charged m t (b + 1) ds ps n es inner deep each)

  -- the trees are as many as the places, and their children are charged
  pub each_charged : (m : List (List ℕ)) (ps : List (ℕ × ℕ)) (ts : Trees) (c d : ℕ) → DenoteEach m ps ts c d
      → (tree_count ts ≡ length ps) × (child_counts ts ≤ c)
  each_charged m ps none c d h = (rw h.0 refl, omega arith)
  each_charged m ps (more t ts) c d (s, w, rest, c1, d1, c2, d2, begins, denotes, after, charge, depth) =
      grind (arith, common_steps, children_charged m s w t c1 d1 denotes, each_charged m rest ts c2 d2 after)

  -- the pointers of n elements are n times those of one, and those below them are charged
  pub elements_charged : (m : List (List ℕ)) (t b ds ps n : ℕ) (es : Trees) (c d : ℕ) → AreElements m t b ds ps n es c d
      → child_counts es ≤ n * ps + c
  elements_charged m t b ds ps n none c d h = omega arith
  elements_charged m t b ds ps n (more (struct words ts) es) c d h =
      let (fewer, c1, d1, c2, d2, counted, own, each, after, charge, depth) = h in
      let a = each_charged m (places t (b + ds) ps) ts c1 d1 each in
      let e = elements_charged m t (b + ds + ps) ds ps fewer es c2 d2 after in
      search (rules, length-places)
  elements_charged m t b ds ps n (more x es) c d h = absurd h

-- what following costs beside words depends on the tag of a composite list alone
pub extra_same : (q x y : ℕ) → kind q < 2 → (kind q ≡ 1 → code q ≡ 7 → x ≡ y) → extra q x ≡ extra q y
extra_same q x y lt same = search (rules, eqb-false, eqb-true)

-- an object is a struct or a list
pub lead_kind : (m : List (List ℕ)) (s w k t : ℕ) (b : ℤ) (q : ℕ) → Leads m s w k (to_object t b q) → kind q < 2
lead_kind m s w k t b q x7 = search rules

-- a pointer word costs one number
pub one_cost : (m : List (List ℕ)) (s w x y : ℕ) → Costs m s w x → Costs m s w y → x ≡ y
one_cost m s w x y x5 x6 = search (rules, one_lead, one_object, extra_same, lead_kind, one_word)

-- structs and lists of pointers cost nothing beside words
pub extra_struct : (q : ℕ) → kind q ≡ 0 → extra q 0 ≡ 0
extra_struct q e = rw e refl

pub extra_pointers : (q : ℕ) → kind q ≡ 1 → code q ≡ 6 → extra q 0 ≡ 0
extra_pointers q e f = rw (e, f) refl

-- a part of a sum is at most the sum
own_below : (a b c : ℕ) → c ≡ a + b → a ≤ c
own_below a b c e = omega arith

-- What a word denotes costs something of its own, which its charge has in it.
pub own_cost : (m : List (List ℕ)) (s w : ℕ) (t : Tree) (c d : ℕ) → Denotes m s w t c d
    → (x : ℕ) × Costs m s w x × (x ≤ c)
own_cost m s w null c d h = (c, inl h.0, omega arith)
own_cost m s w (cap i) c d h = (c, inr (inl (i, h.0)), omega arith)
own_cost m s w (scalars e values) c d (k, t, b, q, tag, n, found, own) = search (rules, found_cost, own_below)
own_cost m s w x3 c d h = search (rules, found_cost, own_below)

-- The pointers of what a word denotes are at most its charge and one.
pub pointers_charged : (m : List (List ℕ)) (s w : ℕ) (t : Tree) (c d : ℕ) → Denotes m s w t c d
    → pointer_count t ≤ c + 1
pointers_charged m s w t c d h = omega (arith, children_charged m s w t c d h)
