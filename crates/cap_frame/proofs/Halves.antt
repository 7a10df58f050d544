-- The halves of the words of bytes are the bytes' numbers of four bytes each.
use Rattle.std.proofs.lemmas.Grind.{get_or_after_one}
use Rattle.cap_spec.proofs.Frames.Framing.{length_halves}
use Rattle.cap_spec.proofs.ProofNames.{List, [], ap, arith, drop, flat_map, get_or, length, length-drop, suc, sum, sym}
use Rattle.cap_spec.proofs.ProofNames.{zero-add, ℕ, ◌%◌, ◌*◌, ◌++◌, ◌+◌, ◌<◌, ◌^◌, ◌∙◌, ◌∷◌, ◌≡◌, ◌≤◌}
use Rattle.cap_spec.proofs.ProofNames.{take_more, sum_by-append, AllByRecursion, little_number, halves, plain_words}
use Rattle.cap_spec.proofs.ProofNames.{rules}
use Rattle.cap_frame.specs.Fronts.{sizes_given}

-- half k of the words is the number at byte 4 k
pub half_at : (bs : List ℕ) (k : ℕ) → AllByRecursion (λ b. b < 256) bs → k < 2 * length (plain_words bs)
    → get_or (flat_map halves (plain_words bs)) k 0 ≡ little_number 4 (drop (4 * k) bs)
half_at (a ∷ b ∷ c ∷ d ∷ e ∷ f ∷ g ∷ h ∷ rest) (suc (suc k)) all l =
    let j : suc (suc (suc (suc (suc (suc (suc (suc (4 * k)))))))) ≡ 4 * suc (suc k) = omega arith in
    half_at rest k all.1.1.1.1.1.1.1.1 (omega (arith, l)) ∙ ap (λ n. little_number 4 (drop n (a ∷ b ∷ c ∷ d ∷ e ∷ f ∷ g ∷ h ∷ rest))) j
half_at bs k all l = search rules

-- the low half of the first word is the first number
pub first_half : (bs : List ℕ) (first : ℕ) (more : List ℕ) → AllByRecursion (λ b. b < 256) bs → plain_words bs ≡ first ∷ more
    → first % 2 ^ 32 ≡ little_number 4 bs
first_half bs first more all e = ap (λ ws. get_or (flat_map halves ws) 0 0) (sym e) ∙ half_at bs 0 all (omega (arith, ap length e))

-- one more size is the next number
pub more_given : (bs : List ℕ) (s : ℕ) → AllByRecursion (λ b. b < 256) bs → s + 2 ≤ 2 * length (plain_words bs)
    → sizes_given (s + 1) (plain_words bs) ≡ sizes_given s (plain_words bs) ++ little_number 4 (drop (4 + 4 * s) bs) ∷ []
more_given bs s all l = search (
  rules,
  length-drop 1 (flat_map halves (plain_words bs)),
  length_halves (plain_words bs),
  get_or_after_one (flat_map halves (plain_words bs)) s 0,
  half_at bs (1 + s) all (omega (arith, l)),
  take_more,
)

-- and adds to their sum
pub more_total : (bs : List ℕ) (s : ℕ) → AllByRecursion (λ b. b < 256) bs → s + 2 ≤ 2 * length (plain_words bs)
    → sum (sizes_given (s + 1) (plain_words bs)) ≡ sum (sizes_given s (plain_words bs)) + little_number 4 (drop (4 + 4 * s) bs)
more_total bs s all l = search (rules, more_given, sum_by-append, zero-add)
