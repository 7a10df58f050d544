-- The last words of structs in a row, and what their last pointers denote.
use Rattle.cap_spec.specs.Denoting.{places}
use Rattle.cap_spec.specs.Tree.{none}
use Rattle.cap_spec.proofs.Frames.Messages.{HasWord-at}
use Rattle.cap_spec.proofs.Lemmas.{one_tree}
use Rattle.cap_spec.proofs.ProofNames.{List, ap, arith, below_more, cases_eq, false, inl, inr, is_null, length, refl, subst, suc, sym}
use Rattle.cap_spec.proofs.ProofNames.{zero, ℕ, ◌*◌, ◌+◌, ◌-◌, ◌<◌, ◌≡◌, ◌≢◌, ◌⊎◌, AreElements, DenoteEach, Denotes, HasWord}
use Rattle.cap_spec.proofs.ProofNames.{Tree, Trees, more, near, null, one_pad, rules, segment_of}
use Rattle.cap_spec.proofs.ProofNames.{struct, two_pads}
use Rattle.cap_spec.proofs.Trees.OneTree.{cons_parts}
use Rattle.cap_canon.specs.Trimming.{IsFarAt}
use Rattle.cap_difference.specs.Reasons.{IsNullAt}

-- Of words that are each so far after the one before, one isn't zero, or all are.
pub zeros_or : (m : List (List ℕ)) (t a each n : ℕ) → ((k : ℕ) → k < n → a + k * each < length (segment_of m t))
    → ((k : ℕ) × (x : ℕ) × (k < n) × HasWord m t (a + k * each) x × (x ≢ 0)) ⊎ ((k : ℕ) → k < n → HasWord m t (a + k * each) 0)
zeros_or m t a each zero inside = inr (λ k lt. absurd (omega (arith, lt)))
zeros_or m t a each (suc n) inside =
    go (zeros_or m t a each n (λ k lt. inside k (omega (arith, lt)))) (HasWord-at m t (a + n * each) (inside n (omega arith)))
  where
    go : ((k : ℕ) × (x : ℕ) × (k < n) × HasWord m t (a + k * each) x × (x ≢ 0)) ⊎ ((k : ℕ) → k < n → HasWord m t (a + k * each) 0)
        → (x : ℕ) × HasWord m t (a + n * each) x
        → ((k : ℕ) × (x : ℕ) × (k < suc n) × HasWord m t (a + k * each) x × (x ≢ 0)) ⊎ ((k : ℕ) → k < suc n → HasWord m t (a + k * each) 0)
    go (inl (k, y, lt, has, some)) last = inl (k, y, omega (arith, lt), has, some)
    go (inr zeros) (x, has) = elim (cases_eq x 0) [
      | inl z ↦ inr (λ k lt. below_more (λ (k : ℕ). HasWord m t (a + k * each) 0) n zeros (subst (HasWord m t (a + n * each)) z has) k (omega (arith, lt)))
      | inr some ↦ inl (n, x, omega arith, has, some)
    ]

-- a word that denotes null is zero, or far
pub null_word : (m : List (List ℕ)) (t w : ℕ) → IsNullAt m t w → HasWord m t w 0 ⊎ IsFarAt m t w
null_word m t w (k, near p has isnt says pads) = inl (subst (HasWord m t w) says has)
null_word m t w (k, one_pad p q has one has' isnt says pads) = inr (p, has, one.0)
null_word m t w (k, two_pads p f q has two h i j tag e pads) = absurd (cc e)

-- Of such words that denote null, one is far, or all are zero.
pub nulls_far_or : (m : List (List ℕ)) (t a each n : ℕ) → ((k : ℕ) → k < n → IsNullAt m t (a + k * each))
    → ((k : ℕ) × (k < n) × IsFarAt m t (a + k * each)) ⊎ ((k : ℕ) → k < n → HasWord m t (a + k * each) 0)
nulls_far_or m t a each zero nulls = inr (λ k lt. absurd (omega (arith, lt)))
nulls_far_or m t a each (suc n) nulls =
    go (nulls_far_or m t a each n (λ k lt. nulls k (omega (arith, lt)))) (null_word m t (a + n * each) (nulls n (omega arith)))
  where
    go : ((k : ℕ) × (k < n) × IsFarAt m t (a + k * each)) ⊎ ((k : ℕ) → k < n → HasWord m t (a + k * each) 0)
        → HasWord m t (a + n * each) 0 ⊎ IsFarAt m t (a + n * each)
        → ((k : ℕ) × (k < suc n) × IsFarAt m t (a + k * each)) ⊎ ((k : ℕ) → k < suc n → HasWord m t (a + k * each) 0)
    go (inl (k, lt, far)) last = inl (k, omega (arith, lt), far)
    go (inr zeros) (inl here) = inr (λ k lt. below_more (λ (k : ℕ). HasWord m t (a + k * each) 0) n zeros here k (omega (arith, lt)))
    go (inr zeros) (inr far) = inl (n, omega arith, far)

-- whatever the word denotes isn't null
abbrev pub DenotesSome : List (List ℕ) → ℕ → ℕ → Type 0
DenotesSome m t w = (u : Tree) (c d : ℕ) → Denotes m t w u c d → is_null u ≡ false

-- A word that denotes a tree denotes null, or it doesn't.
some_tree : (m : List (List ℕ)) (t w : ℕ) (u : Tree) (c d : ℕ) → Denotes m t w u c d → is_null u ≡ false → DenotesSome m t w
some_tree m t w u c d h e v c' d' k =
    let o = one_tree m t w u v c d c' d' h k in subst (λ (x : Tree). is_null x ≡ false) o.part e

pub null_or : (m : List (List ℕ)) (t w : ℕ) (u : Tree) (c d : ℕ) → Denotes m t w u c d → IsNullAt m t w ⊎ DenotesSome m t w
null_or m t w null c d h = inl (c, h.0)
null_or m t w u c d h = inr (some_tree m t w u c d h refl)

-- a word in a row of words that denote trees denotes one
pub each_at : (m : List (List ℕ)) (t b n : ℕ) (ts : Trees) (c d i : ℕ) → DenoteEach m (places t b n) ts c d → i < n
    → (u : Tree) × (c' d' : ℕ) × Denotes m t (b + i) u c' d'
each_at m t b zero ts c d i h lt = absurd (omega (arith, lt))
each_at m t b (suc n) none c d i h lt = absurd (cc h.0)
each_at m t b (suc n) (more x xs) c d zero (s, w, rest, c1, d1, c2, d2, e, first, h, _, _) lt =
    let parts = cons_parts (t, b) (s, w) (places t (b + 1) n) rest e in
    let place : s ≡ t = sym (ap (λ (p : ℕ × ℕ). p.0) parts.0) in
    let word : w ≡ b = sym (ap (λ (p : ℕ × ℕ). p.1) parts.0) in
    let at : w ≡ b + 0 = omega (arith, word) in
    (x, c1, d1, subst (λ v. Denotes m t v x c1 d1) at (subst (λ v. Denotes m v w x c1 d1) place first))
each_at m t b (suc n) (more x xs) c d (suc i) (s, w, rest, c1, d1, c2, d2, e, first, h, _, _) lt =
    let parts = cons_parts (t, b) (s, w) (places t (b + 1) n) rest e in
    let k = each_at m t (b + 1) n xs c2 d2 i (subst (λ ps. DenoteEach m ps xs c2 d2) (sym parts.1) h) (omega (arith, lt)) in
    let at : b + 1 + i ≡ b + suc i = omega arith in
    (k.0, k.1, k.2, subst (λ v. Denotes m t v k.0 k.1 k.2) at k.3)

-- Of the last pointers of structs in a row one denotes something, or all denote null.
pub elements_null_or : (m : List (List ℕ)) (t b ds ps n : ℕ) (es : Trees) (c d : ℕ) → 0 < ps → AreElements m t b ds ps n es c d
    → ((i : ℕ) × (i < n) × DenotesSome m t (b + i * (ds + ps) + ds + (ps - 1)))
    ⊎ ((k : ℕ) → k < n → IsNullAt m t (b + k * (ds + ps) + (ds + ps - 1)))
elements_null_or m t b ds ps n none c d some h = inr (λ k lt. absurd (omega (arith, lt, h.0)))
elements_null_or m t b ds ps n (more (struct ws ts) es) c d some (n', c1, d1, c2, d2, many, _, children, others, _, _) =
    let last = each_at m t (b + ds) ps ts c1 d1 (ps - 1) children (omega (arith, some)) in
    go (null_or m t (b + ds + (ps - 1)) last.0 last.1 last.2 last.3) (elements_null_or m t (b + ds + ps) ds ps n' es c2 d2 some others)
  where
    go : IsNullAt m t (b + ds + (ps - 1)) ⊎ DenotesSome m t (b + ds + (ps - 1))
        → ((i : ℕ) × (i < n') × DenotesSome m t (b + ds + ps + i * (ds + ps) + ds + (ps - 1)))
        ⊎ ((k : ℕ) → k < n' → IsNullAt m t (b + ds + ps + k * (ds + ps) + (ds + ps - 1)))
        → ((i : ℕ) × (i < n) × DenotesSome m t (b + i * (ds + ps) + ds + (ps - 1)))
        ⊎ ((k : ℕ) → k < n → IsNullAt m t (b + k * (ds + ps) + (ds + ps - 1)))
    go (inr here) rest =
        let at : b + ds + (ps - 1) ≡ b + 0 * (ds + ps) + ds + (ps - 1) = omega arith in
        inl (0, omega (arith, many), subst (DenotesSome m t) at here)
    go (inl here) (inl (i, lt, later)) =
        let each : suc i * (ds + ps) ≡ ds + ps + i * (ds + ps) = omega arith in
        let at : b + ds + ps + i * (ds + ps) + ds + (ps - 1) ≡ b + suc i * (ds + ps) + ds + (ps - 1) = omega (arith, each) in
        inl (suc i, omega (arith, many, lt), subst (DenotesSome m t) at later)
    go (inl here) (inr nulls) = inr all
      where
        all : (k : ℕ) → k < n → IsNullAt m t (b + k * (ds + ps) + (ds + ps - 1))
        all zero lt =
            let at : b + ds + (ps - 1) ≡ b + 0 * (ds + ps) + (ds + ps - 1) = omega (arith, some) in subst (IsNullAt m t) at here
        all (suc k) lt =
            let each : suc k * (ds + ps) ≡ ds + ps + k * (ds + ps) = omega arith in
            let at : b + ds + ps + k * (ds + ps) + (ds + ps - 1) ≡ b + suc k * (ds + ps) + (ds + ps - 1) = omega (arith, each) in
            subst (IsNullAt m t) at (nulls k (omega (arith, lt, many)))
elements_null_or m t b ds ps n es c d some h = search rules
