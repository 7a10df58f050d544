-- What the laws of the plain encoding say (standard: 64-bit Words).
use Rattle.std.specs.List.{AllByRecursion}
use Rattle.std.specs.Prelude.{List, [], drop, length, true, ℕ, ◌*◌, ◌<◌, ◌↔◌, ◌≡◌, ◌≢◌}
use Rattle.cap_spec.specs.Plain.{PlainSplits, plain_is_cut, plain_words}

-- a list of bytes splits in exactly one way into words and less than a word, as the two functions say
abbrev pub OneSplit : Type 0
OneSplit = (bytes : List ℕ) → AllByRecursion (λ b. b < 256) bytes → (words rest : List ℕ) →
    PlainSplits bytes words rest ↔ (words ≡ plain_words bytes) × (rest ≡ drop (8 * length (plain_words bytes)) bytes)

-- the bytes end inside a word exactly if something is left after the words
abbrev pub CutWithRest : Type 0
CutWithRest = (bytes words rest : List ℕ) → PlainSplits bytes words rest → (plain_is_cut bytes ≡ true) ↔ (rest ≢ [])
