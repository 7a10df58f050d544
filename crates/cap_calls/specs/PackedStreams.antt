-- The place in a packed stream, between the words that its bytes gave and those that they will give
-- (standard: Packing; the bytes that a word takes are the profile's).
use Rattle.std.specs.Prelude.{List, [], drop, if◌then◌else◌, length, replicate, take, ℕ, ◌%◌, ◌*◌, ◌++◌, ◌+◌, ◌<◌, ◌==◌}
use Rattle.std.specs.Prelude.{◌∷◌, ◌≡◌, ◌≤◌, ◌⊎◌}
use Rattle.cap_spec.specs.SpecNames.{plain_words, marks, unpacked}
use Rattle.cap_calls.specs.declared.packed_stream.Given.{Given}

-- The words that bytes give: first zero words of a run, then literal words of a run, then those of
-- groups, as far as the bytes have them whole.
abbrev pub words_to_come : ℕ → ℕ → List ℕ → List ℕ
words_to_come zeros literal bytes =
    replicate zeros 0 ++ (plain_words (take (8 * literal) bytes) ++ unpacked (drop (8 * literal) bytes))

-- how many bytes the head of the group in front has: those up to its first word, and the number of
-- further words in a run
abbrev pub head_length : List ℕ → ℕ
head_length [] = 1
head_length (tag ∷ bytes) = if tag == 0 then 2 else (if tag == 255 then 10 else (1 + marks 8 tag))

-- At one place in a stream `zeros` zero words and `literal` literal words of a run are still to come, and
-- at a later place those that are left. The `taken` bytes between them give these words.
pub record GivesWords (zeros literal : ℕ) (bytes words : List ℕ) (taken zeros_left literal_left : ℕ) : Type 0 where
  pub within : taken ≤ length bytes
  -- whatever bytes follow
  pub gives : (more : List ℕ) → words_to_come zeros literal (take taken bytes ++ more)
      ≡ words ++ words_to_come zeros_left literal_left more
  -- Fewer bytes give fewer words. So the head of a group is taken with its first word.
  pub least : (n : ℕ) → n < taken → length (words_to_come zeros literal (take n bytes)) < length words

-- the numbers of words that a run may still have
pub record IsRunRest (zeros literal : ℕ) : Type 0 where
  pub zeros_fit : zeros ≤ 255
  pub literal_fit : literal ≤ 255
  pub one : (zeros ≡ 0) ⊎ (literal ≡ 0)

-- The words that some bytes give are in a buffer that held `old`, from one byte up to another.
pub record WritesWords (start zeros literal : ℕ) (bytes old new : List ℕ) (g : Given) : Type 0 where
  pub after : start ≤ g.written
  pub fits : g.written ≤ length old
  pub long : length new ≡ length old
  pub whole : g.written % 8 ≡ 0
  pub leads : GivesWords zeros literal bytes (plain_words (drop start (take g.written new))) g.taken g.zeros g.literal
  pub front : take start new ≡ take start old
  pub rest : drop g.written new ≡ drop g.written old
  pub left : IsRunRest g.zeros g.literal
