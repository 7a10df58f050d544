-- How many words are due.
use Rattle.std.proofs.Common.{List, [], ap, arith, refl, ℕ, ◌++◌, ◌+◌, ◌∷◌, ◌≡◌, ◌≤◌, rules}
use Rattle.cap_spec.specs.Canonical.{element_sizes, size, sizes}
use Rattle.cap_spec.specs.Tree.{Tree, Trees, cap, more, none, null, pointers, scalars, struct, structs}
use Rattle.cap_canon.specs.Laying.{Due, below, element_slots, own_size, size_due, slots}

pub size_due-append : (xs ys : List Due) → size_due (xs ++ ys) ≡ size_due xs + size_due ys
size_due-append [] ys = omega arith
size_due-append (x ∷ xs) ys = let r = size_due-append xs ys in omega (arith, r)

size_slots : (a : ℕ) (ts : Trees) → size_due (slots a ts) ≡ sizes ts
size_slots a none = refl
size_slots a (more t ts) = ap (λ n. size t + n) (size_slots (a + 1) ts)

size_elements : (d p a : ℕ) (es : Trees) → size_due (element_slots d p a es) ≡ element_sizes es
size_elements d p a none = refl
size_elements d p a (more (struct ws ts) es) = search (rules, size_due-append, size_slots, size_elements d p (a + d + p) es)
size_elements d p a (more null es) = size_elements d p a es
size_elements d p a (more (cap i) es) = size_elements d p a es
size_elements d p a (more (scalars c vs) es) = size_elements d p a es
size_elements d p a (more (pointers ts) es) = size_elements d p a es
size_elements d p a (more (structs x y ts) es) = size_elements d p a es

-- a tree's words are its own and those of what becomes due
pub size_below : (end : ℕ) (u : Tree) → size u ≡ own_size u + size_due (below end u)
size_below end h = search (rules, size_slots, size_elements)

-- its own words fit
pub own_within : (end full : ℕ) (u : Tree) (due : List Due) (slot : ℕ) → end + size_due (record { slot = slot; tree = u } ∷ due) ≤ full
    → end + own_size u ≤ full
own_within end full u due slot h = let e = size_below end u in omega (arith, e, h)
