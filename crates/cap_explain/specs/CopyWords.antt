-- What an accepted message has at its first difference, beside what its canonical copy has there (profile; standard:
-- Canonicalization).
use Rattle.std.specs.Prelude.{Bool, List, None, Option, Some, [], codes, decimal, false, if◌then◌else◌, length, suc, true, zero, ℕ}
use Rattle.std.specs.Prelude.{◌%◌, ◌*◌, ◌++◌, ◌+◌, ◌-◌, ◌==◌, ◌^◌, ◌∷◌}
use Rattle.cap_spec.specs.Canonical.{list_word, struct_word}
use Rattle.cap_spec.specs.Messages.{segment_of}
use Rattle.cap_spec.specs.Pointers.{code, data_size, extent, kind, list_size, middle, pointer_size}
use Rattle.cap_spec.specs.Texts.{hex}
use Rattle.cap_difference.specs.Reasons.{last_bits}
use Rattle.cap_difference.specs.declared.difference.Difference.{Difference}
use Rattle.cap_difference.specs.declared.reason.DifferenceReason.{DifferenceReason}
use Rattle.cap_difference.specs.declared.reason.DifferenceReason.TheVariants as reason
use Rattle.cap_explain.specs.FormTexts.{segment_word_text}
use Rattle.cap_explain.specs.Leading.{landing_of, list_tag, target_of, word_of}
use Rattle.cap_explain.specs.declared.copied.Copied.{Copied}
use Rattle.cap_explain.specs.declared.copied.Copied.TheVariants.{NoCopy, Nothing, Word}
use Rattle.cap_explain.specs.declared.copied.DifferingWord.{DifferingWord}
use Rattle.cap_explain.specs.declared.landing.Landing.{Landing}
use Rattle.cap_explain.specs.declared.landing.Landing.TheVariants.{One}
use Rattle.cap_explain.specs.declared.rows.Row.{Row}
use Rattle.cap_explain.specs.declared.target.Target.{Target}

-- a landing pad of one word, which is zero
abbrev pub is_null_pad : Landing → Bool
is_null_pad (One word) = word == 0
is_null_pad _ = false

-- a pointer word that denotes null
abbrev pub is_null_pointer : List (List ℕ) → ℕ → Bool
is_null_pointer m p = if p == 0 then true else is_null_pad (landing_of m p)

-- a word that a copy may leave out at the end of its section: zero, or a pointer that denotes null
abbrev pub is_empty : List (List ℕ) → Bool → Option ℕ → Bool
is_empty m as_pointer None = false
is_empty m as_pointer (Some x) = if as_pointer then is_null_pointer m x else x == 0

-- the first words of n structs of `each` words are all so, from t:w on
abbrev pub are_empty : List (List ℕ) → Bool → ℕ → ℕ → ℕ → ℕ → Bool
are_empty m as_pointer t w each zero = true
are_empty m as_pointer t w each (suc n) =
    if is_empty m as_pointer (word_of m t (w + n * each)) then are_empty m as_pointer t w each n else false

-- how many of the first n words of the structs of a row, from t:w on, are left when those at the end are cut
abbrev pub words_left : List (List ℕ) → Row → Bool → ℕ → ℕ → ℕ
words_left m row as_pointer w zero = 0
words_left m row as_pointer w (suc n) =
    if are_empty m as_pointer row.segment (w + n) (row.data_words + row.pointers) row.count
    then words_left m row as_pointer w n else suc n

-- the data words and the pointers that a copy has of each struct of a row
abbrev pub data_left : List (List ℕ) → Row → ℕ
data_left m row = words_left m row false row.first row.data_words

abbrev pub pointers_left : List (List ℕ) → Row → ℕ
pointers_left m row = words_left m row true (row.first + row.data_words) row.pointers

-- the structs of a list, by its tag
abbrev pub elements : Target → Option ℕ → Option Row
elements t None = None
elements t (Some tag) = Some (record {
  segment = t.segment;
  first = t.start - t.excess + 1;
  count = middle tag;
  data_words = data_size tag;
  pointers = pointer_size tag;
})

-- the structs of a target: itself, or those of a list
abbrev pub row_of : List (List ℕ) → Target → Option Row
row_of m t =
    if kind t.word == 0 then Some (record {
      segment = t.segment;
      first = t.start - t.excess;
      count = 1;
      data_words = data_size t.word;
      pointers = pointer_size t.word;
    }) else elements t (list_tag m t)

-- a copy's pointer to a struct of these sizes
abbrev pub copied_struct : ℕ → ℕ → ℕ → ℕ
copied_struct offset d p = if d + p == 0 then 2 ^ 32 - 4 else struct_word offset d p

-- its pointer to the structs of a row: one, or a list
abbrev pub copied_row : List (List ℕ) → ℕ → ℕ → Row → ℕ
copied_row m offset q row =
    if kind q == 0 then copied_struct offset (data_left m row) (pointers_left m row) else
    list_word offset 7 ((row.count * (data_left m row + pointers_left m row)) % 2 ^ 29)

-- its pointer to an object of the shape word q, with these structs
abbrev pub copied_object : List (List ℕ) → ℕ → ℕ → Option Row → ℕ
copied_object m offset q None = list_word offset (code q) (list_size q)
copied_object m offset q (Some row) = copied_row m offset q row

-- what a copy has for the pointer word p with this target, if that begins `offset` words after it
abbrev pub copied_pointer : List (List ℕ) → ℕ → ℕ → Option Target → Copied
copied_pointer m offset p None = if is_null_pointer m p then Word 0 else NoCopy
copied_pointer m offset p (Some t) = Word (copied_object m offset t.word (row_of m t))

-- that pointer word, with the copy's object where the difference has the end of the copy
abbrev pub differing_pointer : List (List ℕ) → Difference → ℕ → Option Target → DifferingWord
differing_pointer m d p target = record {
  segment = d.segment;
  word = d.word;
  copied = copied_pointer m ((d.end - (d.word + 1)) % 2 ^ 30) p target;
}

-- the last word of a list of values, of which a copy has the bits of the values
abbrev pub last_values : List (List ℕ) → Target → ℕ → Option ℕ → Option DifferingWord
last_values m t w None = None
last_values m t w (Some x) = Some (record {
  segment = t.segment;
  word = w;
  copied = Word (x % 2 ^ last_bits (code t.word) (list_size t.word));
})

abbrev pub differing_values : List (List ℕ) → Target → Option DifferingWord
differing_values m t =
    let w = t.start - t.excess + extent t.word - 1 in last_values m t w (word_of m t.segment w)

-- of structs: the tag, the first word after them, or the last data word or pointer of the first of them
abbrev pub differing_row : DifferenceReason → Row → Option DifferingWord
differing_row reason.EmptyList row =
    Some (record { segment = row.segment; word = row.first - 1; copied = Word 0 })
differing_row reason.Surplus row =
    Some (record { segment = row.segment; word = row.first + row.count * (row.data_words + row.pointers); copied = Nothing })
differing_row reason.DataZero row =
    Some (record { segment = row.segment; word = row.first + row.data_words - 1; copied = Nothing })
differing_row reason.PointerNull row =
    Some (record { segment = row.segment; word = row.first + row.data_words + row.pointers - 1; copied = Nothing })
differing_row _ row = None

abbrev pub differing_structs : DifferenceReason → Option Row → Option DifferingWord
differing_structs v None = None
differing_structs v (Some row) = differing_row v row

abbrev pub differing_object : List (List ℕ) → DifferenceReason → Option Target → Option DifferingWord
differing_object m v None = None
differing_object m reason.Bits (Some t) = differing_values m t
differing_object m v (Some t) = differing_structs v (row_of m t)

-- the word that differs, if one does: the pointer word p with this target, or a word of the target
abbrev pub differing_word : List (List ℕ) → Difference → DifferenceReason → ℕ → Option Target → Option DifferingWord
differing_word m d reason.Far p target = Some (differing_pointer m d p target)
differing_word m d reason.Capability p target = Some (differing_pointer m d p target)
differing_word m d reason.EmptyStruct p target = Some (differing_pointer m d p target)
differing_word m d reason.Place p target = Some (differing_pointer m d p target)
differing_word m d v p target = differing_object m v target

-- what a copy has in the place of a word
abbrev pub copied_text : Copied → List ℕ
copied_text (Word x) = codes ", the copy has " ++ hex x
copied_text Nothing = codes ", the copy has none"
copied_text NoCopy = codes ", there is no copy"

-- a word of the message, and what a copy has in its place
abbrev pub word_line : DifferingWord → ℕ → List ℕ
word_line d x = codes "  word " ++ (segment_word_text d.segment d.word ++ 32 ∷ (hex x ++ (copied_text d.copied ++ 10 ∷ [])))

-- the same, if the message has that word
abbrev pub differing_line : DifferingWord → Option ℕ → List ℕ
differing_line d None = []
differing_line d (Some x) = word_line d x

abbrev pub differing_lines : List (List ℕ) → Option DifferingWord → List ℕ
differing_lines m None = []
differing_lines m (Some d) = differing_line d (word_of m d.segment d.word)

-- how many segments or words the message has, and how many a copy has
abbrev pub segments_line : List (List ℕ) → List ℕ
segments_line m = (codes "  segments " ++ decimal (length m)) ++ codes ", the copy has 1" ++ 10 ∷ []

abbrev pub words_line : List (List ℕ) → ℕ → List ℕ
words_line m end = (codes "  words " ++ decimal (length (segment_of m 0))) ++ (codes ", the copy has " ++ decimal end) ++ 10 ∷ []

-- what differs at the pointer word p, or in its object
abbrev pub pointed_lines : List (List ℕ) → Difference → Option ℕ → List ℕ
pointed_lines m d None = []
pointed_lines m d (Some p) =
    differing_lines m (differing_word m d d.reason p (target_of d.segment d.word p (landing_of m p)))

-- the line of what differs at the first difference
abbrev pub copy_lines : List (List ℕ) → Difference → DifferenceReason → List ℕ
copy_lines m d reason.Segments = segments_line m
copy_lines m d reason.Trailing = words_line m d.end
copy_lines m d _ = pointed_lines m d (word_of m d.segment d.word)
