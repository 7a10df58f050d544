-- A trimmed tree is its own trimmed tree.
use Rattle.std.proofs.Common.{List, ap, ap₂, arith, if◌then◌else◌, refl, suc, sym, take, take-take, zero, ℕ, ◌==◌, ◌∷◌}
use Rattle.std.proofs.Common.{◌≡◌, ◌≤◌, rules}
use Rattle.cap_spec.specs.Canonical.{children_needed, children_of, cut_elements, data_needed, data_of, is_null}
use Rattle.cap_spec.specs.Canonical.{take_trees, trim, trim_all, trim_elements, trim_struct, trim_structs}
use Rattle.cap_spec.specs.Tree.{Tree, Trees, more, none, pointers, struct, structs}

-- a front that is long enough for the whole is long enough for the rest
pub rest_below : (n x d : ℕ) → (if n == 0 then x else suc n) ≤ suc d → n ≤ d
rest_below n x d h = search rules

-- where a prefix of no words is long enough, none are needed of the rest
none_needed : (n x : ℕ) → (if n == 0 then x else suc n) ≤ 0 → (if n == 0 then x else suc n) ≡ 0
none_needed n x h = omega arith

-- cut words need as many as before, where that many are left
pub data_needed-take : (d : ℕ) (ws : List ℕ) → data_needed ws ≤ d → data_needed (take d ws) ≡ data_needed ws
data_needed-take zero (x ∷ xs) h = sym (none_needed (data_needed xs) (if x == 0 then 0 else 1) h)
data_needed-take (suc d) (x ∷ xs) h =
    search (rules, data_needed-take d xs (rest_below (data_needed xs) (if x == 0 then 0 else 1) d h))
data_needed-take d ws h = refl

-- the same of children
pub children_needed-take : (p : ℕ) (ts : Trees) → children_needed ts ≤ p
    → children_needed (take_trees p ts) ≡ children_needed ts
children_needed-take zero (more t ts) h = sym (none_needed (children_needed ts) (if is_null t then 0 else 1) h)
children_needed-take (suc p) (more t ts) h =
    search (rules, children_needed-take p ts (rest_below (children_needed ts) (if is_null t then 0 else 1) p h))
children_needed-take p ts h = refl

-- children cut twice to one length are cut once
pub take_trees-take_trees : (n : ℕ) (ts : Trees) → take_trees n (take_trees n ts) ≡ take_trees n ts
take_trees-take_trees (suc n) (more t ts) = ap (more t) (take_trees-take_trees n ts)
take_trees-take_trees n ts = refl

-- what is cut may be trimmed before or after
pub trim_all-take : (n : ℕ) (ts : Trees) → trim_all (take_trees n ts) ≡ take_trees n (trim_all ts)
trim_all-take (suc n) (more t ts) = ap (more (trim t)) (trim_all-take n ts)
trim_all-take n ts = refl

pub trim_elements-cut : (d p : ℕ) (es : Trees)
    → trim_elements (cut_elements d p es) ≡ cut_elements d p (trim_elements es)
trim_elements-cut d p none = refl
trim_elements-cut d p (more (struct words ts) es) = search (rules, trim_all-take, trim_elements-cut d p es)
trim_elements-cut d p (more t es) = ap (more t) (trim_elements-cut d p es)

-- elements cut twice to one size are cut once
pub cut_elements-cut : (d p : ℕ) (es : Trees) → cut_elements d p (cut_elements d p es) ≡ cut_elements d p es
cut_elements-cut d p none = refl
cut_elements-cut d p (more (struct words ts) es) =
    search (rules, take-take, take_trees-take_trees, cut_elements-cut d p es)
cut_elements-cut d p (more t es) = ap (more t) (cut_elements-cut d p es)

-- cut elements need as many data words as before, where that many are left
pub data_of-cut : (d p : ℕ) (es : Trees) → data_of es ≤ d → data_of (cut_elements d p es) ≡ data_of es
data_of-cut d p none h = refl
data_of-cut d p (more (struct words ts) es) h = omega (arith, data_needed-take, data_of-cut d p es (omega (arith, h)))
data_of-cut d p (more t es) h = data_of-cut d p es h

-- the same of their children
pub children_of-cut : (d p : ℕ) (es : Trees) → children_of es ≤ p → children_of (cut_elements d p es) ≡ children_of es
children_of-cut d p none h = refl
children_of-cut d p (more (struct words ts) es) h =
    omega (arith, children_needed-take, children_of-cut d p es (omega (arith, h)))
children_of-cut d p (more t es) h = children_of-cut d p es h

-- a trimmed struct of trimmed children, trimmed again
trim_struct-again : (ws : List ℕ) (us : Trees) → trim_all us ≡ us → trim (trim_struct ws us) ≡ trim_struct ws us
trim_struct-again ws us e =
    search (rules, trim_all-take, data_needed-take, children_needed-take, take-take, take_trees-take_trees)

-- trimmed elements of trimmed children, trimmed again
trim_structs-again : (es : Trees) → trim_elements es ≡ es → trim (trim_structs es) ≡ trim_structs es
trim_structs-again es e = search (rules, trim_elements-cut, data_of-cut, children_of-cut, cut_elements-cut)

mutual
  -- a trimmed tree is its own trimmed tree
  pub trim-trim : (t : Tree) → trim (trim t) ≡ trim t
  trim-trim (struct words ts) = trim_struct-again words (trim_all ts) (trim_all-trim_all ts)
  trim-trim (pointers ts) = ap pointers (trim_all-trim_all ts)
  trim-trim (structs d p es) = trim_structs-again (trim_elements es) (trim_elements-trim_elements es)
  trim-trim t = refl

  -- and so are trimmed children
  pub trim_all-trim_all : (ts : Trees) → trim_all (trim_all ts) ≡ trim_all ts
  trim_all-trim_all none = refl
  trim_all-trim_all (more t ts) = ap₂ more (trim-trim t) (trim_all-trim_all ts)

  -- and the elements of a struct list
  pub trim_elements-trim_elements : (es : Trees) → trim_elements (trim_elements es) ≡ trim_elements es
  trim_elements-trim_elements none = refl
  trim_elements-trim_elements (more (struct words ts) es) =
      search (rules, trim_elements-trim_elements es, trim_all-trim_all ts)
  trim_elements-trim_elements (more t es) = ap (more t) (trim_elements-trim_elements es)
