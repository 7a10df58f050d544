-- The whole words of bytes, and their text.
use Rattle.std.proofs.lemmas.Grind.{flat_map-append}
use Rattle.cap_spec.proofs.Bytes.Plain.{length_plain, plain_split}
use Rattle.cap_spec.proofs.ProofNames.{List, Option, arith, length, length-append, sym, take, take_all, ℕ, ◌%◌}
use Rattle.cap_spec.proofs.ProofNames.{◌*◌, ◌++◌, ◌/◌, ◌<◌, ◌∙◌, ◌≡◌, append_known-moved, take-append-le, Appends}
use Rattle.cap_spec.proofs.ProofNames.{Keeps, append_known, AllByRecursion, plain_text, plain_words, rules}
use Rattle.cap_words.specs.Sinks.{Begins}
use Rattle.cap_words.proofs.PlainEncoding.{part_begins}

-- the front of bytes that holds their whole words is the text of these
pub whole_text : (bytes : List ℕ) → AllByRecursion (λ b. b < 256) bytes → take (length bytes / 8 * 8) bytes ≡ plain_text (plain_words bytes)
whole_text bytes small = search (rules, plain_split, length_plain, length-append, take-append-le, take_all)

-- and if all are whole words, so are all of them
pub words_text : (bytes : List ℕ) → AllByRecursion (λ b. b < 256) bytes → length bytes % 8 ≡ 0 → bytes ≡ plain_text (plain_words bytes)
words_text bytes small e = sym (take_all (length bytes / 8 * 8) bytes (omega (arith, e))) ∙ whole_text bytes small

-- the text of words was written
pub words_put : (a b : Option (List ℕ)) (bytes ws more : List ℕ) → bytes ≡ plain_text ws → Appends a b bytes →
    Keeps (append_known a (plain_text (ws ++ more))) (append_known b (plain_text more))
words_put a b bytes ws more e p = search (rules, append_known-moved, flat_map-append)

-- a part of the text of words was written
pub words_begin : (a b : Option (List ℕ)) (n : ℕ) (bytes ws more : List ℕ) → bytes ≡ plain_text ws → Appends a b (take n bytes) →
    Begins (append_known a (plain_text (ws ++ more))) b
words_begin a b n bytes ws more e p = search (rules, part_begins, flat_map-append)
