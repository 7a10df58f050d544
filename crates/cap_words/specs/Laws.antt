-- What is known to come are bytes, and words: the laws of the inputs and the source of this crate
-- (profile).
use Rattle.std.proofs.lemmas.Bool.{false≢true, ltb-true}
use Rattle.std.specs.List.{AllByRecursion}
use Rattle.std.specs.Prelude.{Bool, IfSome, List, None, Option, Some, [], false, if◌then◌else◌, nat_lt, option_map}
use Rattle.std.specs.Prelude.{refl, true, ℕ, ◌&&◌, ◌<◌, ◌∷◌, ◌≡◌}
use Rattle.cap_spec.specs.SpecNames.{plain_words, IsWord}
use Rattle.cap_spec.proofs.Bytes.Plain.{plain_split}
use Rattle.cap_words.specs.PlainSource.{bytes_left}
use Rattle.cap_words.specs.Known.{are_bytes, known_bytes}
use Rattle.cap_words.specs.declared.byte_io.Phase.{Phase}
use Rattle.cap_words.specs.declared.byte_io.Phase.TheVariants.{Ended, Failed, Open}

-- both of two tests hold
pub both_hold : (a b : Bool) → (a && b) ≡ true → (a ≡ true) × (b ≡ true)
both_hold true b e = (refl, e)
both_hold false b e = (e, absurd (false≢true e))

-- numbers that pass the test are bytes
pub each_byte : (bytes : List ℕ) → are_bytes bytes ≡ true → AllByRecursion (λ b. b < 256) bytes
each_byte [] e = tt
each_byte (b ∷ bytes) e = (ltb-true b 256 (both_hold (nat_lt b 256) (are_bytes bytes) e).0, each_byte bytes (both_hold (nat_lt b 256) (are_bytes bytes) e).1)

-- only numbers that pass the test are given, so these are bytes
pub passed_bytes : (bytes : List ℕ) (c : Bool) → are_bytes bytes ≡ c → IfSome (if c then Some bytes else None) (AllByRecursion (λ b. b < 256))
passed_bytes bytes true e = each_byte bytes e
passed_bytes bytes false e = tt

-- the numbers that a reader is known to give are bytes
pub known_are_bytes : (known : Option (List ℕ)) → IfSome (known_bytes known) (AllByRecursion (λ b. b < 256))
known_are_bytes None = tt
known_are_bytes (Some bytes) = passed_bytes bytes (are_bytes bytes) refl

-- bytes that are known encode words
pub known_are_words : (phase : Phase) (known : Option (List ℕ)) → IfSome known (AllByRecursion (λ b. b < 256))
    → IfSome (option_map plain_words (bytes_left phase known)) (AllByRecursion IsWord)
known_are_words Open None all = tt
known_are_words Open (Some bytes) all = (plain_split bytes all).are_words
known_are_words Ended None all = tt
known_are_words Ended (Some bytes) all = tt
known_are_words Failed None all = tt
known_are_words Failed (Some bytes) all = tt
