-- The tag of eight bytes of which none is zero.
use Rattle.cap_spec.proofs.ProofNames.{Bool, List, [], arith, if◌then◌else◌, length, refl, ℕ, ◌+◌, ◌<◌, ◌==◌, ◌∷◌, ◌≡◌}
use Rattle.cap_spec.proofs.ProofNames.{tag_of, zero_bytes, zeros_in, word_bytes, common_steps, rules}

-- a byte is zero, or its bit is set
one_of : (b : Bool) → (if b then 1 else 0) + (if b then 0 else 1) ≡ 1
one_of x = search rules

-- where all bits of the tag are set, no byte is zero
full_from_tag : (bs : List ℕ) → length bs ≡ 8 → tag_of bs ≡ 255 → zeros_in bs ≡ 0
full_from_tag (a ∷ b ∷ c ∷ d ∷ e ∷ f ∷ g ∷ h ∷ []) eight t = search (rules, one_of)
full_from_tag bs eight t = absurd (omega arith)

-- and the other way round
tag_from_full : (bs : List ℕ) → length bs ≡ 8 → zeros_in bs ≡ 0 → tag_of bs ≡ 255
tag_from_full (a ∷ b ∷ c ∷ d ∷ e ∷ f ∷ g ∷ h ∷ []) eight z = search (rules, one_of)
tag_from_full bs eight z = absurd (omega arith)

-- the same of a word
pub full_word : (w : ℕ) → tag_of (word_bytes w) ≡ 255 → zero_bytes w ≡ 0
full_word w t = full_from_tag (word_bytes w) refl t

pub word_tag : (w : ℕ) → zero_bytes w ≡ 0 → tag_of (word_bytes w) ≡ 255
word_tag w z = tag_from_full (word_bytes w) refl z

-- where no bit is set, every byte is zero, and so is the word
no_bit : (b : ℕ) → ◌≡◌ {A = ℕ} (if b == 0 then 0 else 1) 0 → b ≡ 0
no_bit b h = grind (arith, common_steps)

pub zero_word : (w : ℕ) → w < 18446744073709551616 → tag_of (word_bytes w) ≡ 0 → w ≡ 0
zero_word w h t = search (rules, no_bit)
