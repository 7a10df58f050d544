-- That what packed bytes give in their course are words: the law of the source of this crate (profile).
use Rattle.std.proofs.Common.{lit<}
use Rattle.std.specs.List.{AllByRecursion}
use Rattle.std.specs.Prelude.{Bool, IfSome, List, None, Option, Some, [], drop, false, if◌then◌else◌, length, nat_lt}
use Rattle.std.specs.Prelude.{option_map, suc, true, zero, ℕ, ◌<◌, ◌==◌, ◌∷◌}
use Rattle.byteorder.specs.Endian.{little_number}
use Rattle.cap_spec.specs.SpecNames.{spread, IsWord}
use Rattle.cap_spec.proofs.Bytes.Lists.{all_drop}
use Rattle.cap_spec.proofs.Packed.UnpackedWords.{eight_bytes_below, spread_below}
use Rattle.cap_words.specs.declared.byte_io.Phase.{Phase}
use Rattle.cap_words.specs.declared.byte_io.Phase.TheVariants.{Ended, Failed, Open}
use Rattle.cap_pack.specs.Course.{Course, course_words, gives, head_rest, plain_of, stops, zeros_of, zeros_then, course}
use Rattle.cap_pack.specs.Course.{course_in, first_word}
use Rattle.cap_pack.specs.State.{ahead}

-- of two words the one that is chosen
pub chosen_word : (c : Bool) (x y : ℕ) → IsWord x → IsWord y → IsWord (if c then x else y)
chosen_word true x y p q = p
chosen_word false x y p q = q

-- a group's first word
pub first_is_word : (tag : ℕ) (bytes : List ℕ) → AllByRecursion (λ b. b < 256) bytes → IsWord (first_word tag bytes)
unfolding first_word
first_is_word tag bytes all =
    chosen_word (tag == 0) 0 (if tag == 255 then little_number 8 bytes else spread 8 tag bytes) (lit< tt)
    (chosen_word (tag == 255) (little_number 8 bytes) (spread 8 tag bytes) (eight_bytes_below bytes all) (spread_below 8 tag bytes all))

-- zero words, and words after them
pub zeros_are_words : (n at : ℕ) (more : Course) → AllByRecursion IsWord (course_words more) → AllByRecursion IsWord (course_words (zeros_then n at more))
zeros_are_words zero at more all = all
zeros_are_words (suc n) at more all = (lit< tt, zeros_are_words n at more all)

-- a word and what comes then, unless the input ends before it
pub given_are_words : (c : Bool) (end word at : ℕ) (more : Course) → IsWord word → AllByRecursion IsWord (course_words more)
    → AllByRecursion IsWord (course_words (if c then stops end else gives word at more))
given_are_words true end word at more p all = tt
given_are_words false end word at more p all = (p, all)

-- a course in f steps
pub course_gives_words : (f n at : ℕ) (bytes : List ℕ) → AllByRecursion (λ b. b < 256) bytes → AllByRecursion IsWord (course_words (course_in f n at bytes))
unfolding course_in
course_gives_words zero n at bytes all = tt
course_gives_words (suc f) zero at [] all = tt
course_gives_words (suc f) zero at (tag ∷ bytes) all =
    given_are_words (nat_lt (length bytes) (head_rest tag)) _ (first_word tag bytes) _ _ (first_is_word tag bytes all.1)
    (zeros_are_words (zeros_of tag bytes) _ _
    (course_gives_words f (plain_of tag bytes) _ (drop (head_rest tag) bytes) (all_drop (λ b. b < 256) (head_rest tag) bytes all.1)))
course_gives_words (suc f) (suc n) at bytes all =
    given_are_words (nat_lt (length bytes) 8) _ (little_number 8 bytes) _ _ (eight_bytes_below bytes all)
    (course_gives_words f n _ (drop 8 bytes) (all_drop (λ b. b < 256) 8 bytes all))

-- what a source has still to give
pub ahead_are_words : (phase : Phase) (held plain at : ℕ) (bytes : List ℕ) → AllByRecursion (λ b. b < 256) bytes
    → AllByRecursion IsWord (course_words (ahead phase held plain at bytes))
unfolding course
ahead_are_words Open held plain at bytes all = zeros_are_words held at _ (course_gives_words (suc (length bytes)) plain at bytes all)
ahead_are_words Ended held plain at bytes all = tt
ahead_are_words Failed held plain at bytes all = tt

-- where its bytes are known
pub known_course_words : (phase : Phase) (held plain at : ℕ) (known : Option (List ℕ)) → IfSome known (AllByRecursion (λ b. b < 256))
    → IfSome (option_map (λ bs. course_words (ahead phase held plain at bs)) known) (AllByRecursion IsWord)
known_course_words phase held plain at None all = tt
known_course_words phase held plain at (Some bytes) all =
    ahead_are_words phase held plain at bytes all
