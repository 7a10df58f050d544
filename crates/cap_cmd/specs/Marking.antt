-- A mark in each line of a text: the name of a file in front of it, or a member in an object (profile).
use Rattle.std.specs.Prelude.{Bool, List, None, Option, Some, [], drop, false, flat_map, if◌then◌else◌, length, nat_lt, suc, take}
use Rattle.std.specs.Prelude.{true, zero, ℕ, ◌&&◌, ◌++◌, ◌==◌, ◌||◌, ◌∷◌, ◌≡◌}
use Rattle.std.specs.List.{AllByRecursion}
use Rattle.std.specs.Str.{bytes_eq}

-- the column of the byte after this one: 0 after a line feed, and one number for all after the mark
abbrev pub next_column : ℕ → ℕ → ℕ → ℕ
next_column place column byte = if byte == 10 then 0 else (if nat_lt place column then column else suc column)

-- the column after a text
abbrev pub column_after : ℕ → ℕ → List ℕ → ℕ
column_after place column [] = column
column_after place column (b ∷ text) = column_after place (next_column place column b) text

-- what comes in front of a byte at a column
abbrev pub mark_at : ℕ → List ℕ → ℕ → List ℕ
mark_at place mark column = if column == place then mark else []

-- a text with the mark in front of the byte of each line at this place
abbrev pub with_marks : ℕ → List ℕ → ℕ → List ℕ → List ℕ
with_marks place mark column [] = []
with_marks place mark column (b ∷ text) =
    mark_at place mark column ++ (b ∷ with_marks place mark (next_column place column b) text)

-- how many bytes of a mark come in front of a byte at a column
abbrev pub mark_length : ℕ → ℕ → ℕ → ℕ
mark_length place length column = if column == place then length else 0

-- the text without its marks, from a column on, where so many bytes of a mark are left
abbrev pub without_marks : ℕ → ℕ → ℕ → ℕ → List ℕ → List ℕ
without_marks place n column left [] = []
without_marks place n column zero (b ∷ text) =
    b ∷ without_marks place n (next_column place column b) (mark_length place n (next_column place column b)) text
without_marks place n column (suc left) (b ∷ text) = without_marks place n column left text

-- the bytes are this text with its marks, and so many bytes of the next mark
abbrev pub is_marked : ℕ → List ℕ → ℕ → ℕ → List ℕ → List ℕ → Bool
is_marked place mark column done text bytes = bytes_eq (with_marks place mark 0 text ++ take done mark) bytes
    && ((column_after place 0 text == column) && ((column == place) || (done == 0)))

-- what names a mark and its place
abbrev pub mark_name : ℕ → List ℕ → List ℕ
mark_name place mark = place ∷ (length mark ∷ mark)

-- the mark, its place, and the text that these bytes are with its marks
abbrev pub shown_if : Bool → ℕ → List ℕ → List ℕ → Option (List ℕ)
shown_if true place mark text = Some (mark_name place mark ++ text)
shown_if false place mark text = None

abbrev pub shown_of : ℕ → List ℕ → ℕ → ℕ → List ℕ → List ℕ → Option (List ℕ)
shown_of place mark column done text bytes = shown_if (is_marked place mark column done text bytes) place mark text

abbrev pub shown_text : ℕ → List ℕ → ℕ → ℕ → Option (List ℕ) → Option (List ℕ)
shown_text place mark column done None = None
shown_text place mark column done (Some bytes) =
    shown_of place mark column done (without_marks place (length mark) 0 (mark_length place (length mark) 0) bytes) bytes

-- no byte of these is a line feed
abbrev pub IsPiece : List ℕ → Type 0
IsPiece bytes = AllByRecursion (λ b. (b == 10) ≡ false) bytes

-- a line that goes on
abbrev pub with_byte : ℕ → List (List ℕ) → List (List ℕ)
with_byte b [] = (b ∷ []) ∷ []
with_byte b (line ∷ lines) = (b ∷ line) ∷ lines

-- the lines of a text, each with its line feed; after the last feed there may be a line without one
abbrev pub text_lines : List ℕ → List (List ℕ)
text_lines [] = []
text_lines (b ∷ text) = if b == 10 then (b ∷ []) ∷ text_lines text else with_byte b (text_lines text)

-- a line with a mark in front of the byte at this place, if it has that byte
abbrev pub marked_line : ℕ → List ℕ → List ℕ → List ℕ
marked_line place mark line = if nat_lt place (length line) then take place line ++ (mark ++ drop place line) else line

-- a text with the mark in each line
abbrev pub marked_text : ℕ → List ℕ → List ℕ → List ℕ
marked_text place mark text = flat_map (marked_line place mark) (text_lines text)
