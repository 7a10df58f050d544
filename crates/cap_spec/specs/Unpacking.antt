-- Packed text: which bytes encode which words, and what is given of bytes that end inside a group (standard: Packing;
-- present zero bytes and runs across messages are the profile's).
use Rattle.std.specs.List.{AllByRecursion}
use Rattle.std.specs.Prelude.{Bool, List, [], drop, false, flat_map, if◌then◌else◌, length, nat_lt, replicate}
use Rattle.std.specs.Prelude.{slice_index, suc, take, true, zero, ℕ, ◌%◌, ◌*◌, ◌++◌, ◌+◌, ◌/◌, ◌<◌, ◌==◌, ◌∷◌, ◌≡◌, ◌≢◌}
use Rattle.cap_spec.specs.Plain.{plain_text, plain_words, word_bytes}
use Rattle.cap_spec.specs.Words.{IsWord}

-- how many of the lowest n bits are set
abbrev pub marks : ℕ → ℕ → ℕ
marks zero tag = 0
marks (suc n) tag = tag % 2 + marks n (tag / 2)

-- the number of n bytes; byte i is the next one present if bit i of the tag is set, else zero
abbrev pub spread : ℕ → ℕ → List ℕ → ℕ
spread zero tag present = 0
spread (suc n) tag [] = 0
spread (suc n) tag (b ∷ present) = if tag % 2 == 0 then 256 * spread n (tag / 2) (b ∷ present) else (b + 256 * spread n (tag / 2) present)

-- The bytes are one group, which encodes these words.
pub data IsGroup (bytes words : List ℕ) : Type 0 where
  -- a run of zero words
  zeros : (n : ℕ) → n < 256 → bytes ≡ 0 ∷ n ∷ [] → words ≡ replicate (1 + n) 0 → IsGroup bytes words
  -- a word as it is, and more words as they are
  plain : (x : ℕ) (more : List ℕ) → IsWord x → AllByRecursion IsWord more → length more < 256 → bytes ≡ 255 ∷ (word_bytes x ++ length more ∷ plain_text more)
      → words ≡ x ∷ more → IsGroup bytes words
  -- a word by the bytes that its tag marks
  marked : (tag : ℕ) (present : List ℕ) → 0 < tag → tag < 255 → AllByRecursion (λ b. b < 256) present → length present ≡ marks 8 tag → bytes ≡ tag ∷ present
      → words ≡ spread 8 tag present ∷ [] → IsGroup bytes words

-- a group and its words
abbrev pub Groups : Type 0
Groups = List (List ℕ × List ℕ)

abbrev pub groups_text : Groups → List ℕ
groups_text groups = flat_map (λ g. g.0) groups

abbrev pub groups_words : Groups → List ℕ
groups_words groups = flat_map (λ g. g.1) groups

-- The bytes are groups one after the other, which encode these words.
pub record Unpacks (bytes words : List ℕ) : Type 0 where
  pub groups : Groups
  pub each : AllByRecursion (λ g. IsGroup g.0 g.1) groups
  pub text : bytes ≡ groups_text groups
  pub encoded : words ≡ groups_words groups

-- what is given of the beginning of a group: of one with the tag ff, after a whole head, the whole
-- words
abbrev pub given_of : List ℕ → List ℕ
given_of [] = []
given_of (tag ∷ bytes) = if tag == 255 then (if nat_lt (length bytes) 9 then [] else plain_words (take 8 bytes ++ drop 9 bytes)) else []

-- The bytes end inside a group. These words are given before that.
pub record Cut (bytes words : List ℕ) : Type 0 where
  pub whole : List ℕ
  pub before : List ℕ
  pub unpacks : Unpacks whole before
  -- the beginning of a group, and what lacks of it
  pub part : List ℕ
  pub lacking : List ℕ
  pub begun : part ≢ []
  pub proper : lacking ≢ []
  pub encoded : List ℕ
  pub group : IsGroup (part ++ lacking) encoded
  pub text : bytes ≡ whole ++ part
  pub given : words ≡ before ++ given_of part

-- How long the group at the start of the bytes is, by its head as far as it is there.
abbrev pub group_length : List ℕ → ℕ
group_length [] = 0
group_length (tag ∷ bytes) = if tag == 0 then 2 else (if tag == 255 then (10 + 8 * slice_index bytes 8) else (1 + marks 8 tag))

-- the words of the whole group in front
abbrev pub group_words : List ℕ → List ℕ
group_words [] = []
group_words (tag ∷ bytes) =
    if tag == 0 then replicate (1 + slice_index bytes 0) 0 else
    (if tag == 255 then plain_words (take 8 bytes ++ take (8 * slice_index bytes 8) (drop 9 bytes)) else (spread 8 tag bytes ∷ []))

-- the words that bytes give, and whether they end inside a group, in at most as many groups as the
-- number
abbrev pub given_in : ℕ → List ℕ → List ℕ
given_in zero bytes = []
given_in (suc n) bytes = if nat_lt (length bytes) (group_length bytes) then given_of bytes else (group_words bytes
    ++ given_in n (drop (group_length bytes) bytes))

abbrev pub is_cut_in : ℕ → List ℕ → Bool
is_cut_in zero bytes = false
is_cut_in (suc n) bytes = if nat_lt (length bytes) (group_length bytes) then true else is_cut_in n (drop (group_length bytes) bytes)

-- the words that packed bytes give, and whether they end inside a group
abbrev pub unpacked : List ℕ → List ℕ
unpacked bytes = given_in (length bytes) bytes

abbrev pub packed_is_cut : List ℕ → Bool
packed_is_cut bytes = is_cut_in (length bytes) bytes
