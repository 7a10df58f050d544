-- Which words of an unpacker buffered bytes give (profile).
use Rattle.std.specs.Prelude.{List, drop, length, take, ℕ, ◌%◌, ◌++◌, ◌+◌, ◌<◌, ◌^◌, ◌∷◌, ◌≡◌, ◌≤◌}
use Rattle.cap_spec.specs.Plain.{capped, plain_words}
use Rattle.cap_words.specs.declared.byte_io.Phase.TheVariants.{Open}
use Rattle.cap_pack.specs.Course.{Course, course_is_cut, course_places, course_words}
use Rattle.cap_pack.specs.State.{ahead}
use Rattle.cap_pack.specs.declared.buffered.Unpacked.{Unpacked}

-- One course from a place on gives these words, and then it is the other one, from another place on.
pub record CourseLeads (from to : Course) (place now : ℕ) (own : List ℕ) : Type 0 where
  pub words : course_words from ≡ own ++ course_words to
  pub cut : course_is_cut from ≡ course_is_cut to
  pub places : now ∷ course_places to ≡ drop (length own) (place ∷ course_places from)

-- Whatever follows them, these bytes give these words. Before them `zeros` zero words are still to
-- be given, and `plain` literal words are still to be read. The other two numbers are those after
-- them.
abbrev pub BytesGive : ℕ → ℕ → ℕ → ℕ → List ℕ → List ℕ → Type 0
BytesGive zeros plain zeros_left plain_left bytes own =
    (place : ℕ) (rest : List ℕ) → place < 2 ^ 64 →
    CourseLeads (ahead Open zeros plain place (bytes ++ rest))
    (ahead Open zeros_left plain_left (capped (place + length bytes)) rest)
    place (capped (place + length bytes)) own

-- The first done.read of these bytes were read, and the words that they give are at the start of
-- this buffer.
pub record UnpacksInto (zeros plain : ℕ) (bytes buffer : List ℕ) (done : Unpacked) : Type 0 where
  pub within : done.read ≤ length bytes
  pub fits : done.written ≤ length buffer
  pub whole : done.written % 8 ≡ 0
  pub gives : BytesGive zeros plain done.zeros done.plain (take done.read bytes) (plain_words (take done.written buffer))
