-- Digits of a text.
use Rattle.std.proofs.Common.{Bool, List, [], ap, arith, drop, get_or, if◌then◌else◌, inl, inr, length, refl, sym, suc, take, true, false, zero, ℕ, ◌*◌, ◌+◌, ◌-◌, ◌<◌, ◌∙◌, ◌∷◌, ◌≡◌, ◌≤◌}
use Rattle.std.specs.Char.{is_ascii_digit}
use Rattle.std.proofs.lemmas.Bool.{cases_lt}
use Rattle.cap_cmd.specs.Sizes.{after_digits, capped_number, digits_of, number_after}

-- digits up to a place, and then none or the end
pub digits_end : (n : ℕ) (text : List ℕ) → n ≤ length text → ((i : ℕ) → i < n → is_ascii_digit (get_or text i 0) ≡ true)
    → (n < length text → is_ascii_digit (get_or text n 0) ≡ false) → (take n text ≡ digits_of text) × (drop n text ≡ after_digits text)
digits_end zero [] within digits ends = (refl, refl)
digits_end (suc n) [] within digits ends = absurd (omega (arith, within))
digits_end zero (b ∷ text) within digits ends =
    let none = ends (omega arith) in
    (ap (λ (t : Bool). if t then b ∷ digits_of text else []) (sym none), ap (λ (t : Bool). if t then after_digits text else b ∷ text) (sym none))
digits_end (suc n) (b ∷ text) within digits ends =
    let one = digits 0 (omega arith) in
    let rest = digits_end n text (omega (arith, within)) (λ i below. digits (suc i) (omega (arith, below))) (λ inside. ends (omega (arith, inside))) in (
      ap (λ (l : List ℕ). b ∷ l) rest.0 ∙ ap (λ (t : Bool). if t then b ∷ digits_of text else []) (sym one),
      rest.1 ∙ ap (λ (t : Bool). if t then after_digits text else b ∷ text) (sym one),
    )

-- one digit more
pub more_digits : (n : ℕ) (text : List ℕ) → ((i : ℕ) → i < n → is_ascii_digit (get_or text i 0) ≡ true) → is_ascii_digit (get_or text n 0) ≡ true
    → (i : ℕ) → i < suc n → is_ascii_digit (get_or text i 0) ≡ true
more_digits n text digits one i below = elim (cases_lt i n) [
  | inl before ↦ digits i before
  | inr same ↦ let here : i ≡ n = omega (arith, below, same) in ap (λ (k : ℕ). is_ascii_digit (get_or text k 0)) here ∙ one
]

-- the number of one digit more
pub number_more : (n : ℕ) (text : List ℕ) (k : ℕ) → k < length text
    → number_after n (take (suc k) text) ≡ number_after n (take k text) * 10 + (get_or text k 0 - 48)
number_more n [] k inside = absurd (omega (arith, inside))
number_more n (d ∷ text) zero inside = refl
number_more n (d ∷ text) (suc k) inside = number_more (n * 10 + (d - 48)) text k (omega (arith, inside))

-- capped numbers, in a sum and in a product
pub capped_step : (n d : ℕ) → capped_number (capped_number (capped_number n * 10) + d) ≡ capped_number (n * 10 + d)
capped_step n d = omega arith

pub capped_times : (n k : ℕ) → 0 < k → capped_number (capped_number n * k) ≡ capped_number (n * k)
capped_times n k some = grind (arith)
