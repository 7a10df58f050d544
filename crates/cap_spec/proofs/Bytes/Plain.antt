-- Words and their plain encoding: each list of bytes splits into words and less than a word in one way.
use Rattle.cap_spec.specs.Plain.{PlainSplits}
use Rattle.cap_spec.proofs.ProofNames.{List, [], arith, drop, drop_at, length, refl, suc, true, ℕ, ◌*◌, ◌++◌, ◌+◌, ◌/◌}
use Rattle.cap_spec.proofs.ProofNames.{◌<◌, ◌↔◌, ◌∷◌, ◌≡◌, ◌≢◌, AllByRecursion, little_number, plain_is_cut, plain_text}
use Rattle.cap_spec.proofs.ProofNames.{plain_words, IsWord, rules}

-- eight bytes a word
pub length_plain : (ws : List ℕ) → length (plain_text ws) ≡ 8 * length ws
length_plain [] = refl
length_plain (x ∷ ws) = let t = length_plain ws in omega arith

-- bytes have as many words as they have eights
pub words_exact : (bs : List ℕ) → length (plain_words bs) ≡ length bs / 8
words_exact (a ∷ b ∷ c ∷ d ∷ e ∷ f ∷ g ∷ h ∷ rest) = omega (arith, words_exact rest)
words_exact bs = refl

-- the text of words, whatever is after it, begins with these words
pub plain_back : (ws rest : List ℕ) → AllByRecursion IsWord ws
    → plain_words (plain_text ws ++ rest) ≡ ws ++ plain_words rest
plain_back [] rest a = refl
plain_back (x ∷ ws) rest a = search (rules, plain_back ws rest a.1)

-- and is cut where what is after it is
pub plain_cut_back : (ws rest : List ℕ) → plain_is_cut (plain_text ws ++ rest) ≡ plain_is_cut rest
plain_cut_back [] rest = refl
plain_cut_back (x ∷ ws) rest = plain_cut_back ws rest

-- less than eight bytes begin with no word
pub plain_short : (rest : List ℕ) → length rest < 8 → plain_words rest ≡ []
plain_short rest l = search rules

-- and are cut where there are some
pub plain_cut_short : (x : ℕ) (rest : List ℕ) → length rest < 7 → plain_is_cut (x ∷ rest) ≡ true
plain_cut_short a rest l = search rules

-- eight bytes make a word
pub eight_word : (a b c d e f g h : ℕ) → AllByRecursion (λ x. x < 256) (a ∷ b ∷ c ∷ d ∷ e ∷ f ∷ g ∷ h ∷ [])
    → IsWord (little_number 8 (a ∷ b ∷ c ∷ d ∷ e ∷ f ∷ g ∷ h ∷ []))
eight_word a b c d e f g h all = omega arith

-- bytes are the text of the words that they begin with, and less than a word after it
pub plain_split : (bytes : List ℕ) → AllByRecursion (λ b. b < 256) bytes
    → PlainSplits bytes (plain_words bytes) (drop (8 * length (plain_words bytes)) bytes)
plain_split (a ∷ b ∷ c ∷ d ∷ e ∷ f ∷ g ∷ h ∷ rest) all =
    let t = plain_split rest all.1.1.1.1.1.1.1.1 in
    let eight : AllByRecursion (λ x. x < 256) (a ∷ b ∷ c ∷ d ∷ e ∷ f ∷ g ∷ h ∷ []) = search rules in
    let n = length (plain_words rest) in
    let k : 8 * suc n ≡ 8 + 8 * n = omega arith in
    let j : 8 + 8 * n ≡ suc (suc (suc (suc (suc (suc (suc (suc (8 * n)))))))) = omega arith in
    search (rules, eight_word)
plain_split bytes all = search rules

-- bytes that split into words and less than a word begin with just these words
pub plain_words_of : (bytes words rest : List ℕ) → PlainSplits bytes words rest → words ≡ plain_words bytes
plain_words_of bytes words rest s = search (rules, plain_back)

-- and leave just this
pub plain_rest_of : (bytes words rest : List ℕ) → PlainSplits bytes words rest
    → rest ≡ drop (8 * length (plain_words bytes)) bytes
plain_rest_of bytes words rest s = search (rules, drop_at, length_plain, plain_words_of)

-- they end inside a word where something is left
pub plain_cut_of : (bytes words rest : List ℕ) → PlainSplits bytes words rest
    → (plain_is_cut bytes ≡ true) ↔ (rest ≢ [])
plain_cut_of bytes words [] s = search (rules, plain_cut_back)
plain_cut_of bytes words (x ∷ rest) s = search (rules, plain_cut_back)

-- these words and this rest are such a split
pub plain_split_by : (bytes words rest : List ℕ) → AllByRecursion (λ b. b < 256) bytes → words ≡ plain_words bytes
    → rest ≡ drop (8 * length (plain_words bytes)) bytes → PlainSplits bytes words rest
plain_split_by bytes words rest all w r = search (rules, plain_split)
