-- What is there already after the words of a copy.
use Rattle.cap_spec.proofs.Bytes.Plain.{plain_back}
use Rattle.cap_spec.proofs.ProofNames.{List, [], ap, append-nil, ap₂, arith, drop, length, length-append, sym, take}
use Rattle.cap_spec.proofs.ProofNames.{take-append-drop, ℕ, ◌%◌, ◌++◌, ◌∙◌, ◌∷◌, ◌≡◌, ◌≤◌, AllByRecursion, plain_text}
use Rattle.cap_spec.proofs.ProofNames.{plain_words, word_bytes, IsWord}
use Rattle.cap_words.proofs.Filling.{plain_join}
use Rattle.cap_canon.specs.Kept.{Kept}

-- words that were appended were fewer before
pub fewer_before : (xs ys zs : List ℕ) (n : ℕ) → ys ≡ xs ++ zs → length ys ≤ n → length xs ≤ n
fewer_before xs ys zs n e h = omega (arith, ap length e, length-append xs zs, h)

-- words in a row, appended as bytes
pub row_joined : (bytes given words : List ℕ) → AllByRecursion IsWord words → given ≡ plain_text words → length bytes % 8 ≡ 0
    → plain_words (bytes ++ given) ≡ plain_words bytes ++ words
row_joined bytes given words are e whole =
    plain_join bytes given whole
    ∙ ap (λ ws. plain_words bytes ++ ws) (ap plain_words (e ∙ sym (append-nil (plain_text words))) ∙ (plain_back words [] are ∙ append-nil words))

-- and one word
pub word_joined : (bytes given : List ℕ) (w : ℕ) → IsWord w → given ≡ word_bytes w → length bytes % 8 ≡ 0
    → plain_words (bytes ++ given) ≡ plain_words bytes ++ w ∷ []
word_joined bytes given w is e whole = row_joined bytes given (w ∷ []) (is, tt) (e ∙ sym (append-nil (word_bytes w))) whole

-- a list by its front and what comes after it
pub front_and_after : (n : ℕ) (old new front : List ℕ) → take n new ≡ front → drop n new ≡ drop n old → new ≡ front ++ drop n old
front_and_after n old new front e f = sym (take-append-drop n new) ∙ ap₂ (λ xs ys. xs ++ ys) e f

-- what is kept of an output, part by part
pub kept_so : {a b x y : ℕ} (name : ℕ) {p q : List ℕ} → a ≡ b → x ≡ y → p ≡ q
    → ◌≡◌ {A = Kept} (record { capacity = a; borrow = x; name = name; after = p }) (record { capacity = b; borrow = y; name = name; after = q })
kept_so name e f g = λ i. record { capacity = e i; borrow = f i; name = name; after = g i }
