-- How the count goes on at each kind of word.
use Rattle.cap_spec.proofs.Lemmas.{one_lead, scalars_found, struct_found, structs_found}
use Rattle.cap_spec.proofs.Pointers.Shapes.{pointers_extra, pointers_levels, scalars_levels, struct_extra}
use Rattle.cap_spec.proofs.Pointers.Shapes.{struct_levels, structs_levels}
use Rattle.cap_spec.proofs.ProofNames.{List, [], arith, max, pos, refl, subst, ℕ, ◌+◌, ◌<◌, ◌≡◌, ◌≤◌, Finds}
use Rattle.cap_spec.proofs.ProofNames.{element_levels, values_of, words_from, Leads, extra, to_cap, to_null}
use Rattle.cap_spec.proofs.ProofNames.{to_object, HasWord, code, data_size, extent, kind, list_size, middle}
use Rattle.cap_spec.proofs.ProofNames.{pointer_size, cap, null, pointers, scalars, struct, structs, rules}
use Rattle.cap_walk.specs.WalkNames.{Item, Ptr, Ahead, element_rows, row}
use Rattle.cap_walk.proofs.Counting.{Counts}
use Rattle.cap_walk.proofs.Owing.{owes-elements, owes-row}

-- null is no object, and no capability is one
pub null_no_object : (m : List (List ℕ)) (s w k k' t b q : ℕ) → Leads m s w k to_null → Finds m s w k' t b q → ⊥
null_no_object m s w k k' t b q h f = let e = one_lead m s w k k' to_null (to_object t (pos b) q) h f.leads
    in let e1 : to_null ≡ to_object t (pos b) q = e.1 in cc

pub cap_no_object : (m : List (List ℕ)) (s w k i k' t b q : ℕ) → Leads m s w k (to_cap i) → Finds m s w k' t b q → ⊥
cap_no_object m s w k i k' t b q h f = let e = one_lead m s w k k' (to_cap i) (to_object t (pos b) q) h f.leads
    in let e1 : to_cap i ≡ to_object t (pos b) q = e.1 in cc

-- null costs its pads
pub null-counts : (m : List (List ℕ)) (a : Ahead) (k low : ℕ) → Leads m a.segment a.word k to_null → 1 ≤ a.level → a.level ≤ low + 1 → Counts m a [] k low low 0
null-counts m a k low h up near = record {
  build = λ c top p k' (e1, e2, e3, e4). record {
    tree = null;
    depth = 0;
    denotes = (subst (λ u. Leads m a.segment a.word u to_null) (omega (arith, e1)) h, refl);
    level = omega (arith, e2);
    pointers = omega (arith, e3);
    cap_total = omega (arith, e4);
  };
}

-- so does a capability
pub cap-counts : (m : List (List ℕ)) (a : Ahead) (k i low : ℕ) → Leads m a.segment a.word k (to_cap i) → 1 ≤ a.level
    → a.level ≤ low + 1 → Counts m a [] k low low 1
cap-counts m a k i low h up near = record {
  build = λ c top p k' (e1, e2, e3, e4). record {
    tree = cap i;
    depth = 0;
    denotes = (subst (λ u. Leads m a.segment a.word u (to_cap i)) (omega (arith, e1)) h, refl);
    level = omega (arith, e2);
    pointers = omega (arith, e3);
    cap_total = omega (arith, e4);
  };
}

-- a struct costs its pads and its words
pub struct-counts : (m : List (List ℕ)) (a : Ahead) (k t b q low : ℕ) → Finds m a.segment a.word k t b q → kind q ≡ 0
    → Counts m a (row a.path (a.level + 1) Ptr t (b + data_size q) 0 (pointer_size q)) (k + extent q) low (max low a.level) 0
struct-counts m a k t b q low f is_struct = let object = struct_found m a.segment a.word k t b q f is_struct in record {
  build = λ c top p k' owe. let r = owes-row a.path Ptr t (b + data_size q) 0 (pointer_size q) owe in record {
    tree = struct (words_from m t b (data_size q)) r.trees;
    depth = 1 + r.deep;
    denotes = search (rules, struct_extra, struct_levels);
    level = omega (arith, r.depth);
    pointers = omega (arith, r.pointers);
    cap_total = omega (arith, r.caps);
  };
}

-- a list of values costs its pads, its words and its elements without bits
pub scalars-counts : (m : List (List ℕ)) (a : Ahead) (k t b q low : ℕ) → Finds m a.segment a.word k t b q → kind q ≡ 1 → code q < 6
    → Counts m a [] (k + extent q + extra q 0) low (max low a.level) 0
scalars-counts m a k t b q low f is_list below = let object = scalars_found m a.segment a.word k t b q f is_list below in record {
  build = λ c top p k' (e1, e2, e3, e4). record {
    tree = scalars (code q) (values_of m t b (code q) (list_size q));
    depth = 1;
    denotes = (
      k,
      t,
      b,
      q,
      0,
      list_size q,
      record { object = object; charge = omega (arith, e1); depth = omega (arith, scalars_levels object.shape) },
      refl,
    );
    level = omega (arith, e2);
    pointers = omega (arith, e3);
    cap_total = omega (arith, e4);
  };
}

-- a list of pointers costs its pads and its words
pub pointers-counts : (m : List (List ℕ)) (a : Ahead) (k t b q low : ℕ) → Finds m a.segment a.word k t b q → kind q ≡ 1 → code q ≡ 6
    → Counts m a (row a.path (a.level + 1) Item t b 0 (list_size q)) (k + extent q) low (max low a.level) 0
pointers-counts m a k t b q low f is_list is_pointers = record {
  build = λ c top p k' owe. let r = owes-row a.path Item t b 0 (list_size q) owe in record {
    tree = pointers r.trees;
    depth = 1 + r.deep;
    denotes = search (rules, pointers_extra, pointers_levels);
    level = omega (arith, r.depth);
    pointers = omega (arith, r.pointers);
    cap_total = omega (arith, r.caps);
  };
}

-- how deep a list of structs goes, by what its elements owe
elements-level : (low level n top deep : ℕ) → (n ≡ 0 → top ≡ 0) → max (level + (element_levels 1 + 1)) top ≡ level + (element_levels 1 + 1) + deep
    → max (low + 1) (level + (1 + element_levels n + deep)) ≡ max (max low (level + element_levels n) + 1) top
elements-level low level n top deep k h = search rules

-- a list of structs costs its pads, its words and its elements without words
pub structs-counts : (m : List (List ℕ)) (a : Ahead) (k t b q tag low : ℕ) → Finds m a.segment a.word k t b q → kind q ≡ 1 → code q ≡ 7 → HasWord m t b tag
    → Counts m a (element_rows a.path (a.level + (element_levels 1 + 1)) t (b + 1) (data_size tag) (pointer_size tag) 0
    (middle tag)) (k + extent q + extra q tag) low (max low (a.level + element_levels (middle tag))) 0
structs-counts m a k t b q tag low f is_list is_structs has = let object = structs_found m a.segment a.word k t b q f tag is_list is_structs has in record {
  build = λ c top p k' owe. let r = owes-elements a.path (b + 1) 0 (middle tag) owe in record {
    tree = structs (data_size tag) (pointer_size tag) r.elements;
    depth = 1 + element_levels (middle tag) + r.deep;
    denotes = search (rules, structs_levels);
    level = elements-level low a.level (middle tag) top r.deep r.none r.depth;
    pointers = omega (arith, r.pointers);
    cap_total = omega (arith, r.caps);
  };
}
