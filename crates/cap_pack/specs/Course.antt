-- What an unpacker gives of packed bytes, in order: the words, each with the position after it, and then the end (profile).
use Rattle.std.specs.Prelude.{Bool, List, [], drop, false, if◌then◌else◌, length, nat_lt, slice_index, suc, true, zero}
use Rattle.std.specs.Prelude.{ℕ, ◌+◌, ◌==◌, ◌∷◌}
use Rattle.byteorder.specs.Endian.{little_number}
use Rattle.cap_spec.specs.SpecNames.{capped, marks, spread}

pub data Course : Type 0 where
  -- the input ends between groups, at this position
  ends : ℕ → Course
  -- it ends inside a group
  stops : ℕ → Course
  -- a word, the position after it, and what comes then
  gives : ℕ → ℕ → Course → Course

abbrev pub course_words : Course → List ℕ
course_words (ends at) = []
course_words (stops at) = []
course_words (gives word at more) = word ∷ course_words more

abbrev pub course_is_cut : Course → Bool
course_is_cut (ends at) = false
course_is_cut (stops at) = true
course_is_cut (gives word at more) = course_is_cut more

abbrev pub course_places : Course → List ℕ
course_places (ends at) = at ∷ []
course_places (stops at) = at ∷ []
course_places (gives word at more) = at ∷ course_places more

-- n zero words first, all given at one position
abbrev pub zeros_then : ℕ → ℕ → Course → Course
zeros_then zero at more = more
zeros_then (suc n) at more = gives 0 at (zeros_then n at more)

-- how many bytes of a group's head follow its tag: the bytes that the tag names, and the number of further words where there is one
unfoldable pub head_rest : ℕ → ℕ
head_rest tag = if tag == 0 then 1 else (if tag == 255 then 9 else marks 8 tag)

-- by its tag and the bytes of its head after that: the group's first word,
unfoldable pub first_word : ℕ → List ℕ → ℕ
first_word tag bytes = if tag == 0 then 0 else (if tag == 255 then little_number 8 bytes else spread 8 tag bytes)

-- how many zero words come after that one,
unfoldable pub zeros_of : ℕ → List ℕ → ℕ
zeros_of tag bytes = if tag == 0 then slice_index bytes 0 else 0

-- and how many literal words, each by its own eight bytes
unfoldable pub plain_of : ℕ → List ℕ → ℕ
plain_of tag bytes = if tag == 255 then slice_index bytes 8 else 0

-- From a position on, literal words and then groups, in fewer steps than the first number. The
-- second number counts the literal words. A head is read whole before its first word is given.
unfoldable pub course_in : ℕ → ℕ → ℕ → List ℕ → Course
course_in zero plain at bytes = ends at
course_in (suc f) zero at [] = ends at
course_in (suc f) zero at (tag ∷ bytes) =
    if nat_lt (length bytes) (head_rest tag) then stops (capped (at + length (tag ∷ bytes))) else
    gives (first_word tag bytes) (capped (at + suc (head_rest tag)))
    (zeros_then (zeros_of tag bytes) (capped (at + suc (head_rest tag)))
    (course_in f (plain_of tag bytes) (capped (at + suc (head_rest tag))) (drop (head_rest tag) bytes)))
course_in (suc f) (suc n) at bytes =
    if nat_lt (length bytes) 8 then stops (capped (at + length bytes)) else
    gives (little_number 8 bytes) (capped (at + 8)) (course_in f n (capped (at + 8)) (drop 8 bytes))

-- from a position on, `plain` literal words and then groups
unfoldable pub course : ℕ → ℕ → List ℕ → Course
course plain at bytes = course_in (suc (length bytes)) plain at bytes

-- a group whose head ends at this position, and the groups after it
abbrev pub group_course : ℕ → ℕ → ℕ → ℕ → List ℕ → Course
group_course word zeros plain at bytes = gives word at (zeros_then zeros at (course plain at bytes))
