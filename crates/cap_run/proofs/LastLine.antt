-- The last line of a text.
use Rattle.std.proofs.Common.{List, [], ap, arith, codes, drop, get_or, inl, inr, length, length-append, subst, sym, take, ℕ, ◌++◌, ◌+◌, ◌-◌, ◌<◌, ◌∙◌, ◌∷◌, ◌≡◌, ◌≤◌, suc, true, zero}
use Rattle.std.proofs.Math.Seq.{drop-append-add, get_or-append_right, take-append_seam}
use Rattle.std.proofs.lemmas.Bool.{cases_lt}
use Rattle.std.proofs.lemmas.List.{get_or_append_left}
use Rattle.std.proofs.lemmas.Grind.{common_steps}
use Rattle.cap_run.specs.LastLines.{GivesReason, is_spaced}

-- no two blanks are in a row
no_pair : (c : ℕ) (ds : List ℕ) (k : ℕ) → is_spaced c ds ≡ true → k < length ds → get_or (c ∷ ds) k 0 ≡ 32
    → get_or (c ∷ ds) (suc k) 0 ≡ 32 → ⊥
no_pair c [] k h inside x y = absurd (omega (arith, inside))
no_pair c (d ∷ ds) zero h inside x y = grind (arith, common_steps)
no_pair c (d ∷ ds) (suc k) h inside x y = grind (arith, common_steps, no_pair d ds k)

-- how long the lines are
long : (lines sentence : List ℕ) (r : GivesReason lines sentence) → length lines ≡ length r.before + (length sentence + 10)
long lines sentence r =
    let line = codes "  reason " ++ sentence in
    ap (λ (t : List ℕ). length t) r.last ∙ length-append r.before (line ++ 10 ∷ [])
    ∙ ap (λ n. length r.before + n) (length-append line (10 ∷ []) ∙ omega arith)

-- what is where in the last line
in_last : (lines sentence : List ℕ) (r : GivesReason lines sentence) (k : ℕ) → k < length sentence + 9
    → get_or lines (length r.before + k) 0 ≡ get_or (codes "  reason " ++ sentence) k 0
in_last lines sentence r k inside =
    let line = codes "  reason " ++ sentence in
    ap (λ (t : List ℕ). get_or t (length r.before + k) 0) r.last
    ∙ get_or-append_right r.before (line ++ 10 ∷ []) (length r.before + k) 0 (omega arith)
    ∙ ap (λ n. get_or (line ++ 10 ∷ []) n 0) (omega arith)
    ∙ get_or_append_left line (10 ∷ []) 0 k (omega (arith, inside))

-- no blanks in a row are after its start
pair_later : (lines sentence : List ℕ) (r : GivesReason lines sentence) (j : ℕ) → suc (suc j) < length sentence + 9
    → get_or lines (length r.before + suc j) 0 ≡ 32 → get_or lines (length r.before + suc (suc j)) 0 ≡ 32 → ⊥
pair_later lines sentence r j inside x y =
    no_pair 32 (codes "reason " ++ sentence) j r.spaced (omega (arith, inside))
    (sym (in_last lines sentence r (suc j) (omega (arith, inside))) ∙ x)
    (sym (in_last lines sentence r (suc (suc j)) inside) ∙ y)

-- two blanks in a row are at the start of the last line, if they aren't before it
pub at_blanks : (lines sentence : List ℕ) (r : GivesReason lines sentence) (start : ℕ) → length r.before < start
    → start ≤ length lines - 2 → get_or lines (start - 1) 0 ≡ 32 → get_or lines start 0 ≡ 32 → start - 1 ≡ length r.before
at_blanks lines sentence r start after inside x y =
    elim (cases_lt (length r.before) (start - 1)) [
      | inl below ↦
          let j = start - 1 - suc (length r.before) in
          let first : start - 1 ≡ length r.before + suc j = omega (arith, below) in
          let second : start ≡ length r.before + suc (suc j) = omega (arith, below) in
          absurd (pair_later lines sentence r j (omega (arith, inside, below, long lines sentence r))
          (subst (λ n. get_or lines n 0 ≡ 32) first x) (subst (λ n. get_or lines n 0 ≡ 32) second y))
      | inr above ↦ omega (arith, above, after)
    ]

-- the last line begins before, if two blanks aren't there
pub before_blanks : (lines sentence : List ℕ) (r : GivesReason lines sentence) (start : ℕ) → length r.before < start
    → (get_or lines (start - 1) 0 ≡ 32 → get_or lines start 0 ≡ 32 → ⊥) → length r.before < start - 1
before_blanks lines sentence r start after none =
    elim (cases_lt (length r.before) (start - 1)) [
      | inl below ↦ below
      | inr above ↦
          let first : length r.before + 0 ≡ start - 1 = omega (arith, above, after) in
          let second : length r.before + 1 ≡ start = omega (arith, above, after) in
          absurd (none (subst (λ n. get_or lines n 0 ≡ 32) first (in_last lines sentence r 0 (omega arith)))
          (subst (λ n. get_or lines n 0 ≡ 32) second (in_last lines sentence r 1 (omega arith))))
    ]

-- the sentence is what comes after the text before it
pub sentence_is : (lines sentence : List ℕ) (r : GivesReason lines sentence) (start : ℕ) → start ≡ length r.before + 9
    → take (length lines - 1 - start) (drop start lines) ≡ sentence
sentence_is lines sentence r start s =
    let line = codes "  reason " ++ sentence in
    let dropped : drop start lines ≡ sentence ++ 10 ∷ [] =
    ap (λ n. drop n lines) s ∙ ap (λ (t : List ℕ). drop (length r.before + 9) t) r.last ∙ drop-append-add r.before (line ++ 10 ∷ []) 9 in
    let some : length lines - 1 - start ≡ length sentence = omega (arith, long lines sentence r, s) in
    rw (some, dropped) (take-append_seam sentence (10 ∷ []))

-- something is after that text
pub no_sentence : (lines sentence : List ℕ) (r : GivesReason lines sentence) (start : ℕ) → start ≡ length r.before + 9
    → length lines ≤ start → [] ≡ sentence
no_sentence lines sentence r start s short = absurd (omega (arith, long lines sentence r, s, short))
