-- Segments that are held in vectors: f gives the words of each.
use Rattle.std.proofs.lemmas.List.Elements.{All-more}
use Rattle.cap_spec.proofs.ProofNames.{All, List, [], ap, arith, get_or, length, map, subst, sym, take, take_all, ℕ, ◌+◌}
use Rattle.cap_spec.proofs.ProofNames.{◌<◌, ◌^◌, ◌∙◌, ◌≡◌, ◌≤◌, get_or-map, length-map, IsMessage, rules}

module _ {V : Type 0} (f : V → List ℕ) where
  -- the words of the vector at s are segment s
  pub held : (vs : List V) (s : ℕ) (v : V) → s < length (map f vs) → v ≡ get_or vs s v → get_or (map f vs) s [] ≡ f v
  held vs s v h is = get_or-map f vs s v [] (omega (arith, length-map vs f)) ∙ ap f (sym is)

  -- a vector of a message is no longer than a segment may be
  pub held_fits : (vs : List V) (s : ℕ) (v : V) → IsMessage (map f vs) → s < length (map f vs) → v ≡ get_or vs s v → length (f v) < 2 ^ 32
  held_fits vs s v m h is = subst (λ (ws : List ℕ). length ws < 2 ^ 32) (held vs s v h is) (m.lengths s [] h)

  -- one more vector is short enough
  pub held_more : (vs : List V) (s : ℕ) (v : V) → s < length vs → v ≡ get_or vs s v → length (f v) < 2 ^ 32
      → All (λ segment. length segment < 2 ^ 32) (take s (map f vs)) → All (λ segment. length segment < 2 ^ 32) (take (s + 1) (map f vs))
  held_more vs s v h is short before =
      let inside : s < length (map f vs) = omega (arith, length-map vs f) in
      All-more (λ (ws : List ℕ). length ws < 2 ^ 32) (map f vs) s [] inside before
      (subst (λ (ws : List ℕ). length ws < 2 ^ 32) (sym (held vs s v inside is)) short)

  -- a vector that is too long is no segment
  pub held_too_long : (vs : List V) (s : ℕ) (v : V) → s < length vs → v ≡ get_or vs s v → 2 ^ 32 ≤ length (f v) → IsMessage (map f vs) → ⊥
  held_too_long vs s v h is long m = search (rules, length-map, held_fits)

  -- where each of 1 to 512 vectors is short enough, they hold a message
  pub held_message : (vs : List V) (n : ℕ) → 1 ≤ length vs → length vs ≤ 512 → length vs ≤ n
      → All (λ segment. length segment < 2 ^ 32) (take n (map f vs)) → IsMessage (map f vs)
  held_message vs n some few all short = search (rules, length-map, take_all)
