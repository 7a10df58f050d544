-- One more struct of a row, and one more word of each.
use Rattle.cap_spec.proofs.ProofNames.{Bool, List, arith, false, if◌then◌else◌, refl, suc, zero, ℕ, ◌*◌, ◌+◌, ◌-◌, ◌<◌, ◌≡◌}
use Rattle.cap_explain.specs.CopyWords.{are_empty, is_empty, words_left}
use Rattle.cap_explain.specs.Leading.{word_of}
use Rattle.cap_explain.specs.declared.rows.Row.{Row}

one_less : (n : ℕ) → suc n - 1 ≡ n
one_less n = omega arith

pub one_more_struct : (m : List (List ℕ)) (as_pointer : Bool) (t w each n : ℕ) → 0 < n
    → are_empty m as_pointer t w each n
    ≡ (if is_empty m as_pointer (word_of m t (w + (n - 1) * each)) then are_empty m as_pointer t w each (n - 1) else false)
one_more_struct m as_pointer t w each zero h = absurd (omega (arith, h))
one_more_struct m as_pointer t w each (suc n) h = rw (one_less n) refl

pub one_more_word : (m : List (List ℕ)) (row : Row) (as_pointer : Bool) (w n : ℕ) → 0 < n
    → words_left m row as_pointer w n
    ≡ (if are_empty m as_pointer row.segment (w + (n - 1)) (row.data_words + row.pointers) row.count
    then words_left m row as_pointer w (n - 1) else n)
one_more_word m row as_pointer w zero h = absurd (omega (arith, h))
one_more_word m row as_pointer w (suc n) h = rw (one_less n) refl
