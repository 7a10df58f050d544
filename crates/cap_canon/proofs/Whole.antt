-- A whole layout is laid after its root word.
use Rattle.cap_spec.proofs.Canonical.Placing.{lie_taken, lie_whole}
use Rattle.cap_spec.proofs.Lemmas.{rest_at, length-content, Fits}
use Rattle.cap_spec.proofs.ProofNames.{rules, List, [], arith, length, length-drop, refl, subst, sym, take_all, ℕ, ◌↔◌}
use Rattle.cap_spec.proofs.ProofNames.{◌∷◌, ◌≡◌, content, layout, size, Tree}
use Rattle.cap_canon.specs.Laying.{Laid}

-- words are a layout exactly where it is laid from word 1 on, with the root word due
pub layout_laid : (words : List ℕ) (u : Tree) → Fits u → (words ≡ layout u) ↔ Laid words 1 (record { slot = 0; tree = u } ∷ [])
layout_laid words u f = (to, from)
  where
    own : length (content u) ≡ size u
    own = length-content u f

    to : words ≡ layout u → Laid words 1 (record { slot = 0; tree = u } ∷ [])
    to e = subst (λ ws. Laid ws 1 (record { slot = 0; tree = u } ∷ [])) (sym e) (0, omega arith, refl, (lie_whole (layout u)).1, omega (arith, own))

    from : Laid words 1 (record { slot = 0; tree = u } ∷ []) → words ≡ layout u
    from y1 = search (rules, lie_taken, take_all, length-drop, own, rest_at)
