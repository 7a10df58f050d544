-- What a read and a write of the plain encoding do to what is known of words.
use Rattle.cap_spec.proofs.ProofNames.{List, None, Option, Some, ap, append_assoc, drop, sym, take, take-append-drop, ℕ}
use Rattle.cap_spec.proofs.ProofNames.{◌++◌, ◌∷◌, ◌≡◌, append_known-moved, Appends, Keeps, append_known, plain_text}
use Rattle.cap_spec.proofs.ProofNames.{word_bytes, rules}
use Rattle.cap_words.specs.Sinks.{Begins}

-- the bytes of a word were written
pub word_put : (a b : Option (List ℕ)) (bytes : List ℕ) (w : ℕ) (ws : List ℕ) → bytes ≡ word_bytes w → Appends a b bytes
    → Keeps (append_known a (plain_text (w ∷ ws))) (append_known b (plain_text ws))
word_put a b bytes w ws e p = append_known-moved a b bytes (plain_text ws) (plain_text (w ∷ ws)) p (ap (λ l. l ++ plain_text ws) (sym e))

-- a part of the bytes was written with which a text goes on
pub part_begins : (a b : Option (List ℕ)) (n : ℕ) (bytes rest all : List ℕ) → all ≡ bytes ++ rest → Appends a b (take n bytes) → Begins (append_known a all) b
part_begins None b n bytes rest all e p = tt
part_begins (Some x) None n bytes rest all e p = absurd p
part_begins (Some x) (Some y) n bytes rest all e p = search (rules, take-append-drop n bytes, append_assoc (take n bytes) (drop n bytes) rest, append_assoc x (take n bytes) (drop n bytes ++ rest))
