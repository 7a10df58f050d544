-- The words of a table, and their bytes.
use Rattle.cap_spec.proofs.Lemmas.{frame_text_frames, plain_reads}
use Rattle.cap_spec.proofs.ProofNames.{List, ap, append-nil, append_assoc, arith, drop, length, ℕ, ◌*◌, ◌++◌, ◌+◌}
use Rattle.cap_spec.proofs.ProofNames.{◌/◌, ◌<◌, ◌^◌, ◌∙◌, ◌∷◌, ◌≡◌, ◌≤◌, drop_all, length-map, AllByRecursion, paired}
use Rattle.cap_spec.proofs.ProofNames.{IsMessage, plain_text, plain_words, word_bytes, IsWord, rules}
use Rattle.cap_frame.specs.Numbers.{numbers_of, pair_at}
use Rattle.cap_frame.proofs.Putting.{paired_from}

-- pairs of numbers are words
pub paired_words : (xs : List ℕ) → AllByRecursion (λ n. n < 2 ^ 32) xs → AllByRecursion IsWord (paired xs)
paired_words (a ∷ b ∷ rest) all = (omega (arith, all.0, all.1.0), paired_words rest all.1.1)
paired_words xs all = search rules

-- the numbers of a table fit four bytes
pub numbers_fit : (m : List (List ℕ)) → IsMessage m → AllByRecursion (λ n. n < 2 ^ 32) (numbers_of m)
numbers_fit m is = search (rules, frame_text_frames m is)

-- the words of a table, out of its bytes
pub table_back : (m : List (List ℕ)) (bytes : List ℕ) → IsMessage m → bytes ≡ plain_text (paired (numbers_of m))
    → plain_words bytes ≡ paired (numbers_of m)
table_back m bytes is e = ap plain_words e ∙ plain_reads (paired (numbers_of m)) (paired_words (numbers_of m) (numbers_fit m is))

-- one word more was written
pub table_more : (m : List (List ℕ)) (w x : ℕ) (text more given : List ℕ) → w < length m / 2 + 1 → x ≡ pair_at (numbers_of m) (2 * w)
    → given ≡ word_bytes x → more ≡ text ++ given → text ++ plain_text (paired (drop (2 * w) (numbers_of m))) ≡ plain_text (paired (numbers_of m))
    → more ++ plain_text (paired (drop (2 * (w + 1)) (numbers_of m))) ≡ plain_text (paired (numbers_of m))
table_more m w x text more given h e b t whole = search (rules, length-map, paired_from, append_assoc)

-- and none is left
pub table_all : (m : List (List ℕ)) (w : ℕ) (text : List ℕ) → length m / 2 + 1 ≤ w
    → text ++ plain_text (paired (drop (2 * w) (numbers_of m))) ≡ plain_text (paired (numbers_of m)) → text ≡ plain_text (paired (numbers_of m))
table_all m w text h whole = search (rules, drop_all, length-map, append-nil)
