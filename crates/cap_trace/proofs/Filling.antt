-- Steps are written one after the other.
use Rattle.std.proofs.Common.{List, [], ap, arith, drop, get_or, length, map, refl, set, suc, take}
use Rattle.std.proofs.Common.{zero, ℕ, ◌++◌, ◌+◌, ◌<◌, ◌∙◌, ◌∷◌, ◌≡◌, ◌≤◌}
use Rattle.cap_trace.specs.TraceNames.{Step, path_of, step_of, Branch, IsPut}

-- one step after the others
pub step_written : {S : Type 0} (slot : Step → S) (branches : List Branch) (old : List S) (i : ℕ) (d : Branch) → i < length branches
    → length branches ≤ length old
    → set (map slot (path_of (take i branches)) ++ drop i old) i (slot (step_of (get_or branches i d)))
    ≡ map slot (path_of (take (i + 1) branches)) ++ drop (i + 1) old
step_written slot [] old i d less fits = absurd (omega (arith, less))
step_written slot (b ∷ branches) [] i d less fits = absurd (omega (arith, fits))
step_written slot (b ∷ branches) (o ∷ old) zero d less fits = refl
step_written {S} slot (b ∷ branches) (o ∷ old) (suc i) d less fits =
    let e : suc i + 1 ≡ suc (i + 1) = omega arith in
    rw e (ap (λ (u : List S). slot (step_of b) ∷ u) (step_written slot branches old i d (omega (arith, less)) (omega (arith, fits))))

-- A path that is put is at the start of the buffer.
taken : (path rest : List Step) → take (length path) (map (λ (s : Step). s) path ++ rest) ≡ path
taken [] [] = refl
taken [] (r ∷ rest) = refl
taken (p ∷ path) rest = ap (λ (u : List Step). p ∷ u) (taken path rest)

pub take_put : (path old new : List Step) → length path ≤ length old → IsPut (λ (s : Step). s) path old new
    → take (length path) new ≡ path
take_put path old new h put = ap (λ (u : List Step). take (length path) u) (put.0 h) ∙ taken path (drop (length path) old)
