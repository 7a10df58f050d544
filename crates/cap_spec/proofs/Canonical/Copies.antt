-- The one canonical copy of a message.
use Rattle.cap_spec.proofs.Canonical.Layouts.{one_layout, trimmed_layout_denotes}
use Rattle.cap_spec.proofs.Canonical.TrimmedTrees.{has_cap-trim}
use Rattle.cap_spec.proofs.Canonical.Trimming.{trim-trim}
use Rattle.cap_spec.proofs.ProofNames.{List, [], ap, refl, sym, ℕ, ◌<◌, ◌^◌, ◌↔◌, ◌∙◌, ◌∷◌, ◌≡◌, ◌≤◌, layout, trim}
use Rattle.cap_spec.proofs.ProofNames.{HasCopy, IsCanonical, Denotes, Tree, rules}
use Rattle.cap_spec.proofs.Trees.OneTree.{one_tree}

-- a message has no more than one copy
pub one_copy : (m : List (List ℕ)) (xs ys : List ℕ) → HasCopy m xs → HasCopy m ys → xs ≡ ys
one_copy m xs ys h k = search (rules, one_tree)

-- it denotes the trimmed tree, at no more charge and the same depth
pub copy_denotes : (m : List (List ℕ)) (words : List ℕ) (t : Tree) (c d : ℕ) → HasCopy m words
    → Denotes m 0 0 t c d → c < 2 ^ 29
    → (c' : ℕ) × Denotes (words ∷ []) 0 0 (trim t) c' d × (c' ≤ c)
copy_denotes m words t c d k h few = search (rules, one_tree, trimmed_layout_denotes)

-- it is its own copy
pub copy_own : (m : List (List ℕ)) (words : List ℕ) → (k : HasCopy m words) → k.charge < 2 ^ 29
    → HasCopy (words ∷ []) words
copy_own m words k few =
    let r = copy_denotes m words k.tree k.charge k.depth k k.denotes few in record {
      tree = trim k.tree;
      charge = r.0;
      depth = k.depth;
      denotes = r.1;
      no_caps = has_cap-trim k.tree ∙ k.no_caps;
      laid = k.laid ∙ ap layout (sym (trim-trim k.tree));
    }

-- another message has these words for its copy exactly where the trimmed trees are equal
pub copy_only : (m : List (List ℕ)) (words : List ℕ) (t u : Tree) (c d c' d' : ℕ) (other : List (List ℕ))
    → HasCopy m words → Denotes m 0 0 t c d → c < 2 ^ 29 → Denotes other 0 0 u c' d' → c' < 2 ^ 29
    → (layout (trim u) ≡ words) ↔ (trim u ≡ trim t)
copy_only m words t u c d c' d' other k h few h' few' = search (rules, one_tree, one_layout)

-- and so is canonical
pub copy_is_canonical : (m : List (List ℕ)) (words : List ℕ) → (k : HasCopy m words) → k.charge < 2 ^ 29
    → IsCanonical (words ∷ [])
copy_is_canonical m words k few = (words, copy_own m words k few, refl)

-- two messages have one copy exactly where their trimmed trees are equal
pub equal_copies : (m n : List (List ℕ)) (xs ys : List ℕ) → (h : HasCopy m xs) → (k : HasCopy n ys) → h.charge < 2 ^ 29
    → k.charge < 2 ^ 29 → (xs ≡ ys) ↔ (trim h.tree ≡ trim k.tree)
equal_copies m n xs ys h k few less = search (rules, one_layout)
