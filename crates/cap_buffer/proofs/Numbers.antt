-- How many digits a number has.
use Rattle.cap_spec.proofs.ProofNames.{List, ap, arith, decimal, drop, length, length-append, take, take-add, ℕ, ◌++◌}
use Rattle.cap_spec.proofs.ProofNames.{◌+◌, ◌/◌, ◌<◌, ◌^◌, ◌∙◌, ◌≡◌, ◌≤◌, take-append_seam, decimal_digit, decimal_step}
use Rattle.cap_spec.proofs.ProofNames.{length-decimal-le, rules}

-- a number of one digit is one digit long
pub length-decimal_digit : (n : ℕ) → n < 10 → length (decimal n) ≡ 1
length-decimal_digit n h = ap length (decimal_digit n h)

-- a longer number is one digit longer than its front
length-decimal_step : (n : ℕ) → 10 ≤ n → n < 2 ^ 64 → length (decimal n) ≡ length (decimal (n / 10)) + 1
length-decimal_step n h fits = ap length (decimal_step n h fits) ∙ length-append (decimal (n / 10)) _

-- below 100 that is two
pub length-decimal_two : (n : ℕ) → 10 ≤ n → n < 100 → n < 2 ^ 64 → length (decimal n) ≡ 2
length-decimal_two n h few fits = length-decimal_step n h fits ∙ ap (λ k. k + 1) (length-decimal_digit (n / 10) (omega arith))

-- from 100 on it is two digits longer than what is before them
pub length-decimal_pair : (n : ℕ) → 100 ≤ n → n < 2 ^ 64 → length (decimal n) ≡ 2 + length (decimal (n / 100))
length-decimal_pair n h fits = search (rules, length-decimal_step)

-- a number of 64 bits has at most 20 digits
pub length-decimal_few : (n : ℕ) → n < 2 ^ 64 → length (decimal n) ≤ 20
length-decimal_few n h = length-decimal-le 20 n (omega arith) (omega arith) h

-- a text that was written after the first bytes is after them
pub text_after : (old new text rest : List ℕ) (start end : ℕ) → start + length text ≡ end
    → take start new ≡ take start old → drop start new ≡ text ++ rest → take end new ≡ take start old ++ text
text_after old new text rest start end e before written = search (rules, take-add, take-append_seam)
