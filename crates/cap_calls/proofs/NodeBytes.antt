-- The bytes of a node are inside its frame.
use Rattle.cap_spec.specs.declared.Kind.TheVariants.{Pointers}
use Rattle.cap_spec.proofs.Lemmas.{structs_words, word_within}
use Rattle.cap_spec.proofs.Pointers.Shapes.{scalars_words, struct_words}
use Rattle.cap_spec.proofs.ProofNames.{List, [], arith, inl, inr, length, mul-le-mul_right, subst, sym, ℕ, ◌*◌, ◌+◌}
use Rattle.cap_spec.proofs.ProofNames.{◌/◌, ◌<◌, ◌∷◌, ◌≤◌, ⊤, HasObject, segment_of, HasPlace, IsPlace, rules}
use Rattle.cap_spec.proofs.ProofNames.{PathLeads, ReachesSpot, Spot, StepsTo, element, word, element_bits}
use Rattle.cap_spec.proofs.ProofNames.{list_size, list_words}
use Rattle.cap_spec.proofs.Trees.Charges.{elements_fit}
use Rattle.cap_calls.specs.CallNames.{Kind, Cap, Null, Scalars, Struct, Structs, Step, Item, Ptr, kind_node, offset_of}

-- The words of an element are inside their segment.
abbrev IsElementInside : List (List ℕ) → Spot → Type 0
IsElementInside m (word s w) = ⊤
IsElementInside m (element t b ds ps) = (t < length m) × (b + (ds + ps) ≤ length (segment_of m t))

step_inside : (m : List (List ℕ)) (a : Spot) (step : Step) (b : Spot) → StepsTo m a step b → IsElementInside m b
step_inside m (word s w) (Ptr i) b (k, t, b', q, tag, ds, ps, found, less, ends) =
    subst (λ (z : Spot). IsElementInside m z) (sym ends) tt
step_inside m (word s w) (Item i) b (inl (k, t, b', q, tag, n, found, less, ends)) =
    subst (λ (z : Spot). IsElementInside m z) (sym ends) tt
step_inside m (word s w) (Item i) b (inr (k, t, c, q, tag, n, ds, ps, found, less, ends)) =
    let capacity : n * (ds + ps) ≤ list_size q = omega (arith, elements_fit found) in
    let some : (i + 1) * (ds + ps) ≤ n * (ds + ps) = mul-le-mul_right (ds + ps) (omega (arith, less)) in
    let inside = found.finds.inside in
    subst (λ (z : Spot). IsElementInside m z) (sym ends)
    (inside.exists, omega (arith, some, capacity, structs_words found.shape, inside.inside))
step_inside m (element t b ds ps) (Ptr i) c g = subst (λ (z : Spot). IsElementInside m z) (sym g.1) tt
step_inside m (element t b ds ps) (Item i) c g = absurd g

walk_inside : (m : List (List ℕ)) (a : Spot) (path : List Step) (n : ℕ) (b : Spot) → IsElementInside m a
    → PathLeads m a path n b → IsElementInside m b
walk_inside m a [] n b h g = subst (λ (z : Spot). IsElementInside m z) (sym g.1) h
walk_inside m a (step ∷ path) n b h g = walk_inside m g.0 path g.1 b (step_inside m a step g.0 g.2) g.3

comes_inside : (m : List (List ℕ)) (path : List Step) (level : ℕ) (a : Spot) → ReachesSpot m path level a → IsElementInside m a
comes_inside m path level a c = walk_inside m (word 0 0) path c.1 a tt c.3

-- The words of the place of a path are inside their segment.
lies_inside : (m : List (List ℕ)) (a : Spot) (t b n : ℕ) → IsElementInside m a → HasPlace m a t b n
    → (t < length m) × (b + n ≤ length (segment_of m t))
lies_inside m (word s w) t b n h (k, q, finds, e) = (finds.inside.exists, omega (arith, e, finds.inside.inside))
lies_inside m (element u v ds ps) t b n h (e, f, g) = rw (e, f, g) h

pub place_inside : (m : List (List ℕ)) (path : List Step) (t b n : ℕ) → IsPlace m path t b n
    → (t < length m) × (b + n ≤ length (segment_of m t))
place_inside m path t b n (level, a, c, s) = lies_inside m a t b n (comes_inside m path level a c) s

-- how many bytes the values of a list take at most
some_bytes : (x words : ℕ) → x ≤ words * 64 → (x + 7) / 8 ≤ 8 * words
some_bytes x words h = omega (arith, h)

value_bytes : (c n : ℕ) → (element_bits c * n + 7) / 8 ≤ 8 * list_words c n
value_bytes c n = search (rules, word_within, some_bytes)

-- The bytes of a node are inside what its words are inside of.
module _ (m : List (List ℕ)) (frame : ℕ)
    (bound : (t b n : ℕ) → t < length m → b + n ≤ length (segment_of m t) → offset_of m t b + 8 * n ≤ frame) where
  node_within : (a : Spot) (k : Kind) (t b n : ℕ) → IsElementInside m a → HasObject m a k t b n
      → (kind_node k (offset_of m t b)).offset + (kind_node k (offset_of m t b)).length ≤ frame
  node_within (word s w) Null t b n h f = omega arith
  node_within (word s w) (Cap i) t b n h f = omega arith
  node_within (word s w) (Struct d p) t b n h (x, q, tag, f, e) = search (rules, struct_words)
  node_within (word s w) (Scalars c y) t b n h (x, q, tag, f, e) =
      let r = bound t b n f.finds.inside.exists (omega (arith, e, f.finds.inside.inside)) in
      omega (arith, r, e, scalars_words f.shape, value_bytes c y)
  node_within (word s w) (Pointers y) t b n h (x, q, tag, f, e) =
      let r = bound t b n f.finds.inside.exists (omega (arith, e, f.finds.inside.inside)) in omega (arith, r)
  node_within (word s w) (Structs y d p) t b n h (x, q, tag, f, e) =
      let r = bound t b n f.finds.inside.exists (omega (arith, e, f.finds.inside.inside)) in
      let few : y * (d + p) ≤ list_size q = omega (arith, elements_fit f) in
      omega (arith, r, few, e, structs_words f.shape)
  node_within (element u v ds ps) (Struct d p) t b n h f = search rules
  node_within (element u v ds ps) k t b n h f = absurd f

  pub node_bounded : (path : List Step) (k : Kind) (t b n level : ℕ) (a : Spot) → ReachesSpot m path level a → HasObject m a k t b n
      → (kind_node k (offset_of m t b)).offset + (kind_node k (offset_of m t b)).length ≤ frame
  node_bounded path k t b n level a c f = node_within a k t b n (comes_inside m path level a c) f
