-- The canonical copy of a message is strict, and keeps to the limits that the message keeps to.
use Rattle.cap_spec.proofs.Canonical.Layouts.{layout_denotes}
use Rattle.cap_spec.proofs.Canonical.Sizes.{trimmed_size_charged}
use Rattle.cap_spec.proofs.Canonical.TreeMeasures.{Measured, cost, height, measured}
use Rattle.cap_spec.proofs.Canonical.TrimmedMeasures.{Trimmed, trimmed}
use Rattle.cap_spec.proofs.ProofNames.{List, [], arith, subst, sym, ℕ, ◌<◌, ◌^◌, ◌∙◌, ◌∷◌, ◌≡◌, ◌≤◌, layout, size, trim}
use Rattle.cap_spec.proofs.ProofNames.{HasCopy, Denotes, word, IsLax, IsStrict, Tree, Step}
use Rattle.cap_spec.proofs.Strict.LaxForms.{lax_pads}
use Rattle.cap_spec.proofs.Strict.Padless.{own_padless, walk_tight}

-- where the root is charged no more than its tree's cost, no path reaches a pointer that common readers reject
pub none_lax : (m : List (List ℕ)) (t : Tree) (c d : ℕ) → Denotes m 0 0 t c d → c ≤ cost t
    → (path : List Step) → ¬ IsLax m path
none_lax m t c d h le path (level, s, w, what, reached, x) =
    let r = walk_tight m (word 0 0) path reached.1 (word s w) t (c, d, h, le) reached.3 in
    let p = lax_pads m s w what x in
    absurd (omega (arith, p.3, own_padless m s w r.0 r.1.0 r.1.1 p.0 p.1 r.1.2 r.1.3 p.2))

-- the copy is strict
pub copy_strict : (m : List (List ℕ)) (words : List ℕ) (limit depth : ℕ) → (k : HasCopy m words) → k.charge < 2 ^ 29
    → k.charge ≤ limit → k.depth ≤ depth
    → IsStrict (words ∷ []) limit depth
copy_strict m words limit depth k few within shallow =
    let a : Measured k.tree k.charge k.depth = measured m 0 0 k.tree k.charge k.depth k.denotes in
    let b : Trimmed k.tree (trim k.tree) = trimmed k.tree a.fits in
    let e : size (trim k.tree) ≤ k.charge = trimmed_size_charged m 0 0 k.tree k.charge k.depth k.denotes in
    let i : Denotes (layout (trim k.tree) ∷ []) 0 0 (trim k.tree) (cost (trim k.tree)) (height (trim k.tree)) =
    layout_denotes (trim k.tree) b.fits (omega (arith, e, few)) in
    let h : Denotes (words ∷ []) 0 0 (trim k.tree) (cost (trim k.tree)) (height (trim k.tree)) =
    subst (λ ws. Denotes (ws ∷ []) 0 0 (trim k.tree) (cost (trim k.tree)) (height (trim k.tree))) (sym k.laid) i in
    let j : height (trim k.tree) ≡ k.depth = b.deep ∙ a.deep in
    record {
      accepted = (
        trim k.tree,
        cost (trim k.tree),
        height (trim k.tree),
        record {
          denotes = h;
          few_words = omega (arith, a.charged, b.charged, within);
          few_levels = omega (arith, j, shallow);
        },
      );
      few_segments = omega arith;
      none = none_lax (words ∷ []) (trim k.tree) (cost (trim k.tree)) (height (trim k.tree)) h (omega arith);
    }
