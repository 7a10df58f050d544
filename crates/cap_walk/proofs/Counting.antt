-- How a count goes on when the first word ahead is looked at.
use Rattle.cap_spec.proofs.ProofNames.{List, arith, max, refl, ℕ, ◌++◌, ◌+◌, ◌∷◌, ◌≡◌, Denotes, Tree, cap_count}
use Rattle.cap_spec.proofs.ProofNames.{rules, pointer_count}
use Rattle.cap_walk.specs.Owing.{Completes, Counted, IsCount, Owe}
use Rattle.cap_walk.specs.Trails.{Ahead}
use Rattle.cap_walk.proofs.Owing.{append-Owe}

-- what the tree of a word is, by what its children owe
pub record Built (m : List (List ℕ)) (a : Ahead) (cost low low' caps c top p k : ℕ) : Type 0 where
  pub tree : Tree
  pub depth : ℕ
  pub denotes : Denotes m a.segment a.word tree (cost + c) depth
  pub level : max (low + 1) (a.level + depth) ≡ max (low' + 1) top
  pub pointers : pointer_count tree ≡ 1 + p
  pub cap_total : cap_count tree ≡ caps + k

-- The word costs this much and has these children. The deepest level rises from low to low'.
pub record Counts (m : List (List ℕ)) (a : Ahead) (children : List Ahead) (cost low low' caps : ℕ) : Type 0 where
  pub build : (c top p k : ℕ) → Owe m children c top p k → Built m a cost low low' caps c top p k

-- what was counted, with one more word
abbrev pub counted_on : Counted → ℕ → ℕ → ℕ → Counted
counted_on counted cost low' caps = record { charge = counted.charge + cost; depth = low'; pointers = counted.pointers + 1; caps = counted.caps + caps }

complete_on : (m : List (List ℕ)) (counted : Counted) (a : Ahead) (children ahead : List Ahead) (cost low' caps : ℕ)
    → IsCount m counted (a ∷ ahead) → Counts m a children cost counted.depth low' caps
    → (c top p k : ℕ) → Owe m (children ++ ahead) c top p k → (t : Tree) × (d : ℕ) × Completes m (counted_on counted cost low' caps) c top p k t d
complete_on m counted a children ahead cost low' caps count step c top p k owe =
    let parts = append-Owe children owe in
    let b = step.build parts.c1 parts.d1 parts.p1 parts.k1 parts.first in
    let whole : Owe m (a ∷ ahead) (cost + parts.c1 + parts.c2) (max (a.level + b.depth) parts.d2)
    (pointer_count b.tree + parts.p2) (cap_count b.tree + parts.k2) =
    (b.tree, cost + parts.c1, b.depth, parts.c2, parts.d2, parts.p2, parts.k2, b.denotes, parts.second, refl, refl, refl, refl) in
    let (t, d, all) = count.completes (cost + parts.c1 + parts.c2) (max (a.level + b.depth) parts.d2)
    (pointer_count b.tree + parts.p2) (cap_count b.tree + parts.k2) whole in
    let e : counted.charge + (cost + parts.c1 + parts.c2) ≡ counted.charge + cost + c = omega (arith, parts.charge) in search rules

-- The first word ahead is looked at, and its children come before the others.
pub count-step : (m : List (List ℕ)) (counted : Counted) (a : Ahead) (children ahead : List Ahead) (cost low' caps : ℕ)
    → IsCount m counted (a ∷ ahead) → Counts m a children cost counted.depth low' caps → IsCount m (counted_on counted cost low' caps) (children ++ ahead)
count-step m counted a children ahead cost low' caps count step = search (rules, complete_on)
