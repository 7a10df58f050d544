-- Trees with more zero words and null pointers (standard: Canonicalization).
use Rattle.std.specs.Prelude.{replicate, suc, zero, ℕ, ◌++◌, ◌+◌, ◌≡◌}
use Rattle.cap_spec.specs.Tree.{Tree, Trees, cap, more, none, null, pointers, scalars, struct, structs}

-- n nulls
abbrev pub nulls : ℕ → Trees
nulls zero = none
nulls (suc n) = more null (nulls n)

-- these trees, and n nulls after them
abbrev pub with_nulls : ℕ → Trees → Trees
with_nulls n none = nulls n
with_nulls n (more t ts) = more t (with_nulls n ts)

abbrev mutual
  -- t is u with zero data words and null pointers after those of its structs
  pub Extends : Tree → Tree → Type 0
  Extends t null = t ≡ null
  Extends t (cap i) = t ≡ cap i
  Extends t (struct words us) =
      (a b : ℕ) × (ts : Trees) × (t ≡ struct (words ++ replicate a 0) (with_nulls b ts)) × ExtendEach ts us
  Extends t (scalars c vs) = t ≡ scalars c vs
  Extends t (pointers us) = (ts : Trees) × (t ≡ pointers ts) × ExtendEach ts us
  Extends t (structs d p es) =
      (a b : ℕ) × (fs : Trees) × (t ≡ structs (d + a) (p + b) fs) × ExtendElements a b fs es

  -- as many trees, each of which extends the other one in its place
  pub ExtendEach : Trees → Trees → Type 0
  ExtendEach ts none = ts ≡ none
  ExtendEach ts (more u us) =
      (t : Tree) × (rest : Trees) × (ts ≡ more t rest) × Extends t u × ExtendEach rest us

  -- as many elements, each with a more zero words and b more null pointers
  pub ExtendElements : ℕ → ℕ → Trees → Trees → Type 0
  ExtendElements a b fs none = fs ≡ none
  ExtendElements a b fs (more (struct words us) es) =
      (ts rest : Trees) × (fs ≡ more (struct (words ++ replicate a 0) (with_nulls b ts)) rest)
      × ExtendEach ts us × ExtendElements a b rest es
  ExtendElements a b fs (more _ es) = ⊥
