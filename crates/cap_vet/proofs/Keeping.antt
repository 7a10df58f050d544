-- What an accepted message keeps, of which only that it is so is kept, gives its tree.
use Rattle.cap_spec.proofs.Lemmas.{first_cap, one_first_cap, one_tree}
use Rattle.cap_spec.proofs.ProofNames.{List, None, Option, Some, ap, subst, sym, true, ℕ, ◌+◌, ◌∙◌, ◌≡◌, ◌≤◌}
use Rattle.cap_spec.proofs.ProofNames.{∥∥₁_elim, ∥∥₁_map, props, Denotes, IsFirstCap, Tree, cap_count, has_cap}
use Rattle.cap_spec.proofs.ProofNames.{pointer_count, rules}
use Rattle.cap_spec.proofs.Trees.OneTree.{Same}
use Rattle.cap_spec.proofs.Verdicts.Deciding.{TreeWithin, tree_within}
use Rattle.cap_vet.specs.VetNames.{IsFirstCapOf, IsReport, IsVetted, Report}

-- the first capability of a message that denotes a tree
first_cap_kept : (m : List (List ℕ)) (t : Tree) (c d : ℕ) → Denotes m 0 0 t c d → (first : Option (ℕ × ℕ)) → ∥ IsFirstCapOf m first ∥₁ → IsFirstCapOf m first
first_cap_kept m t c d h None p =
    λ path reaches. ∥∥₁_elim p (hlevel props) (λ g. g path reaches)
first_cap_kept m t c d h (Some place) p =
    let one_bool : IsProp (has_cap t ≡ true) = hlevel props in
    let has : has_cap t ≡ true = ∥∥₁_elim p one_bool (λ g. (first_cap m t c d h).1 (place.0, place.1, g)) in
    let g = (first_cap m t c d h).0 has in
    let one_place : IsProp ((g.0 ≡ place.0) × (g.1 ≡ place.1)) = hlevel props in
    let same : (g.0 ≡ place.0) × (g.1 ≡ place.1) = ∥∥₁_elim p one_place (λ x. one_first_cap m g.0 g.1 place.0 place.1 g.2 x) in
    subst (λ u. IsFirstCap m u place.1) same.0 (subst (λ u. IsFirstCap m g.0 u) same.1 g.2)

-- A message that may be accepted is accepted.
pub vetted_kept : (m : List (List ℕ)) (r : Report) → ∥ IsVetted m r ∥₁ → IsVetted m r
vetted_kept m r h =
    let x : TreeWithin m 256 0 0 = tree_within m 256 0 0 (∥∥₁_map h (search rules)) in
    let t : Tree = x.0 in
    let same : (u : Tree) → IsReport m 268435456 256 r u → Same t u x.1 r.charge x.2 r.depth = λ u a. one_tree m 0 0 t u
    x.1 x.2 r.charge r.depth x.3 a.within.denotes in
    let one : (a b : ℕ) → IsProp (a ≡ b) = λ a b. hlevel props in
    let one_le : (a b : ℕ) → IsProp (a ≤ b) = λ a b. hlevel props in
    let charge : x.1 ≡ r.charge = ∥∥₁_elim h (one x.1 r.charge) (λ (u, a). (same u a).charge) in
    let depth : x.2 ≡ r.depth = ∥∥₁_elim h (one x.2 r.depth) (λ (u, a). (same u a).depth) in (
      t,
      record {
        within = record {
          denotes = subst (λ c. Denotes m 0 0 t c r.depth) charge (subst (λ d. Denotes m 0 0 t x.1 d) depth x.3);
          few_words = ∥∥₁_elim h (one_le r.charge 268435456) (λ (u, a). a.within.few_words);
          few_levels = ∥∥₁_elim h (one_le r.depth 256) (λ (u, a). a.within.few_levels);
        };
        pointers = ∥∥₁_elim h (one r.pointers (pointer_count t)) (λ (u, a). a.pointers ∙ ap pointer_count (sym (same u a).part));
        caps = ∥∥₁_elim h (one r.caps (cap_count t)) (λ (u, a). a.caps ∙ ap cap_count (sym (same u a).part));
        first_cap = first_cap_kept m t x.1 x.2 x.3 r.first_cap (∥∥₁_map h (λ (u, a). a.first_cap));
        few = ∥∥₁_elim h (one_le r.pointers (268435456 + 1)) (λ (u, a). a.few);
      },
    )
