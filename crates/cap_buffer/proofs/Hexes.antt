-- The digits of a word's bytes, as the crate `hex` writes them.
use Rattle.hex.specs.Hex.{encode_lower, lower_digits, encode_with}
use Rattle.cap_spec.proofs.ProofNames.{List, [], ap, arith, eqb, eqb-true, flat_map, length, length-append, refl}
use Rattle.cap_spec.proofs.ProofNames.{slice_index, take, true, ℕ, ◌%◌, ◌++◌, ◌+◌, ◌/◌, ◌<◌, ◌∙◌, ◌∷◌, ◌≡◌, ◌≤◌}
use Rattle.cap_spec.proofs.ProofNames.{agree_below_at, take-put_mid, Each1, put_mid, word_bytes, hex, hex_digit, rules}

one_digit : (h : ℕ) → h < 16 → slice_index lower_digits h ≡ hex_digit h
one_digit h l = eqb-true _ _ (agree_below_at (λ k. eqb (slice_index lower_digits k) (hex_digit k)) (λ k. true) 16 h refl l)

digits_of_bytes : (bs : List ℕ) → Each1 (λ b. b < 256) bs → encode_lower bs ≡ flat_map (λ b. hex_digit (b / 16) ∷ hex_digit (b % 16) ∷ []) bs
unfolding encode_with
digits_of_bytes [] f = refl
digits_of_bytes (b ∷ bs) f = search (rules, one_digit, digits_of_bytes bs f.1)

small_bytes : (w : ℕ) → Each1 (λ b. b < 256) (word_bytes w)
small_bytes w = (omega arith, (omega arith, (omega arith, (omega arith, (omega arith, (omega arith, (omega arith, (omega arith, tt))))))))

-- they are the sixteen digits of the word
pub encode_is_hex : (w : ℕ) → encode_lower (word_bytes w) ≡ hex w
encode_is_hex w = digits_of_bytes (word_bytes w) (small_bytes w)

-- sixteen digits that were put after the first bytes of a page
pub hex_put : (len k w : ℕ) (bytes out old : List ℕ) → out ≡ hex w → len ≤ length bytes → take len bytes ≡ old
    → take (len + 16) (put_mid len k bytes out) ≡ old ++ hex w
hex_put len k w bytes out old e fits front = search (rules, take-put_mid)

pub hex_put_length : (len k w : ℕ) (bytes out old : List ℕ) → out ≡ hex w → len ≤ length bytes → take len bytes ≡ old
    → length (take (len + 16) (put_mid len k bytes out)) ≡ length old + 16
hex_put_length len k w bytes out old e fits front = ap length (hex_put len k w bytes out old e fits front) ∙ length-append old (hex w)
