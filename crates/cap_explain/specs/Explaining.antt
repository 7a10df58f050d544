-- The lines that explain a refusal (profile).
use Rattle.std.specs.List.{flat_map}
use Rattle.std.specs.Prelude.{Bool, List, None, Option, Some, [], codes, decimal, drop, if◌then◌else◌, length, min, nat_lt, take, true}
use Rattle.std.specs.Prelude.{ℕ, ◌*◌, ◌++◌}
use Rattle.std.specs.Prelude.{◌+◌, ◌-◌, ◌==◌, ◌^◌, ◌∷◌}
use Rattle.cap_spec.specs.Messages.{segment_of}
use Rattle.cap_spec.specs.PathTexts.{path_text, step_text}
use Rattle.cap_spec.specs.Pointers.{data_size, extent, far_segment, list_size, middle, pad, pointer_size}
use Rattle.cap_spec.specs.Texts.{hex}
use Rattle.cap_spec.specs.declared.Reason.TheVariants.{CompositeOverrun, DepthLimit, WordLimit}
use Rattle.cap_spec.specs.declared.Step.{Step}
use Rattle.cap_spec.specs.declared.StrictRefusal.{StrictRefusal}
use Rattle.cap_spec.specs.declared.StrictRefusal.TheVariants.{ManySegments as many, Pointer as not_strict}
use Rattle.cap_spec.specs.declared.StrictRefusal.TheVariants.{Refused as refused}
use Rattle.cap_ptr.specs.Shapes.{is_structs}
use Rattle.cap_difference.specs.declared.difference.Difference.{Difference}
use Rattle.cap_trace.specs.declared.returning.Cycle.{Cycle}
use Rattle.cap_explain.specs.CopyWords.{copy_lines}
use Rattle.cap_explain.specs.FormTexts.{signed_difference, form_text, segment_word_text, tag_text}
use Rattle.cap_explain.specs.Leading.{first_byte_of, landing_of, segment_after, list_tag, target_of, word_of}
use Rattle.cap_explain.specs.Sentences.{names_pointer, sentence}
use Rattle.cap_explain.specs.declared.landing.Landing.{Landing}
use Rattle.cap_explain.specs.declared.landing.Landing.TheVariants.{Missing, Near, One, Outside, Two}
use Rattle.cap_explain.specs.declared.numbers.MessageStart.{MessageStart}
use Rattle.cap_explain.specs.declared.numbers.Numbers.{Numbers}
use Rattle.cap_explain.specs.declared.sentences.Fault.{Fault}
use Rattle.cap_explain.specs.declared.sentences.Fault.TheVariants.{Differs, ManySegments, NotStrict, Overlap, Refused}
use Rattle.cap_explain.specs.declared.target.Target.{Target}

-- the input in which bytes are counted: those of a packed one are counted unpacked
abbrev pub of_unpacked_input : Bool → List ℕ
of_unpacked_input packed = if packed then codes " of the unpacked input" else codes " of the input"

-- which byte of an input, whose bytes are counted up to 2 ^ 64 - 1, a byte of the message is
abbrev pub input_text : Option MessageStart → ℕ → List ℕ
input_text None byte = []
input_text (Some start) byte =
    (codes ", byte " ++ decimal (min (start.byte + byte) (2 ^ 64 - 1))) ++ of_unpacked_input start.packed

-- where the pointer word is
abbrev pub byte_line : List (List ℕ) → Numbers → ℕ → ℕ → List ℕ
byte_line m k s w = (codes "  byte " ++ decimal (first_byte_of k.has_table m s w))
    ++ (codes " of the message" ++ (input_text k.start (first_byte_of k.has_table m s w) ++ 10 ∷ []))

-- a word, and its form with the fields
abbrev pub word_text : ℕ → List ℕ
word_text p = hex p ++ 32 ∷ form_text p ++ 10 ∷ []

abbrev pub pointer_line : ℕ → List ℕ
pointer_line p = codes "  pointer " ++ word_text p

-- a word of a landing pad
abbrev pub pad_line : ℕ → ℕ → ℕ → List ℕ
pad_line s w p = codes "  pad " ++ segment_word_text s w ++ 32 ∷ word_text p

-- the words of the landing pad of the pointer p
abbrev pub landing_lines : ℕ → Landing → List ℕ
landing_lines p Near = []
landing_lines p Missing = []
landing_lines p Outside = []
landing_lines p (One word) = pad_line (far_segment p) (pad p) word
landing_lines p (Two far tag) =
    pad_line (far_segment p) (pad p) far ++ pad_line (far_segment p) (pad p + 1) tag

-- the place of a word of the target
abbrev pub target_place : Target → ℕ → List ℕ
target_place t w = decimal t.segment ++ 58 ∷ signed_difference w t.excess

-- from its first word to its last one
abbrev pub target_range : Target → List ℕ
target_range t =
    if extent t.word == 0 then target_place t t.start else
    (target_place t t.start ++ codes " to " ++ target_place t (t.start + extent t.word - 1))

-- the words of a list of structs include its tag
abbrev pub tag_note : ℕ → List ℕ
tag_note p = if is_structs p then codes " with the tag" else []

abbrev pub target_line : Target → List ℕ
target_line t =
    codes "  target " ++ target_range t ++ codes ", words " ++ decimal (extent t.word)
    ++ tag_note t.word ++ 10 ∷ []

-- the tag of a list of structs, and its fields
abbrev pub tag_word : ℕ → List ℕ
tag_word tag = hex tag ++ 32 ∷ tag_text tag ++ 10 ∷ []

-- the tag of a list of structs at that target
abbrev pub tag_line : Target → Option ℕ → List ℕ
tag_line t None = []
tag_line t (Some tag) = codes "  tag " ++ target_place t t.start ++ 32 ∷ tag_word tag

abbrev pub target_lines : List (List ℕ) → Option Target → List ℕ
target_lines m None = []
target_lines m (Some t) = target_line t ++ tag_line t (list_tag m t)

-- how many words a segment has, or that it doesn't exist, and which do
abbrev pub segment_state : List (List ℕ) → ℕ → List ℕ
segment_state m s =
    if nat_lt s (length m) then codes ", words " ++ decimal (length (segment_of m s)) else
    (codes ", which does not exist, segments 0 to " ++ decimal (length m - 1))

-- the segment that the pointer leads into, or its own if it leads to nothing
abbrev pub segment_line : List (List ℕ) → ℕ → List ℕ
segment_line m s = (codes "  leads into segment " ++ decimal s) ++ segment_state m s ++ 10 ∷ []

-- the lines on the pointer p at word w of segment s, by its landing pad and its target
abbrev pub pointer_lines : List (List ℕ) → Numbers → ℕ → ℕ → ℕ → Landing → Option Target → List ℕ
pointer_lines m k s w p landing target =
    byte_line m k s w ++ pointer_line p ++ landing_lines p landing ++ target_lines m target
    ++ segment_line m (segment_after s p landing)

-- the first level that is deeper than the limit, and the limit
abbrev pub level_line : ℕ → List ℕ
level_line depth =
    (codes "  level " ++ decimal (depth + 1)) ++ (codes ", limit " ++ decimal depth) ++ 10 ∷ []

-- the charge up to the pointer, and its limit
abbrev pub charge_line : Option ℕ → ℕ → List ℕ
charge_line None words = (codes "  charge, limit " ++ decimal words) ++ (codes " words" ++ 10 ∷ [])
charge_line (Some charge) words =
    ((codes "  charge up to here " ++ decimal charge) ++ (codes " words, limit " ++ decimal words))
    ++ (codes " words" ++ 10 ∷ [])

-- how many words the elements of a tag need
abbrev pub needed : ℕ → ℕ
needed tag = middle tag * (data_size tag + pointer_size tag)

-- the words that the elements of the list of structs p need by its tag, and those that it has
abbrev pub elements_line : ℕ → ℕ → List ℕ
elements_line p tag =
    (codes "  elements need words " ++ decimal (needed tag))
    ++ (codes ", list has words " ++ decimal (list_size p)) ++ 10 ∷ []

-- the same, if there is a tag
abbrev pub tagged_line : ℕ → Option ℕ → List ℕ
tagged_line p None = []
tagged_line p (Some tag) = elements_line p tag

-- the same of the list at a target
abbrev pub overrun_line : List (List ℕ) → Option Target → List ℕ
overrun_line m None = []
overrun_line m (Some t) = tagged_line t.word (list_tag m t)

-- what is exceeded: a limit, or the words of a list of structs
abbrev pub excess_line : List (List ℕ) → Fault → Option Target → Numbers → List ℕ
excess_line m (Refused CompositeOverrun) target k = overrun_line m target
excess_line m (Refused DepthLimit) target k = level_line k.depth
excess_line m (Refused WordLimit) target k = charge_line k.charge k.words
excess_line m _ target k = []

-- the path reaches this pointer word at both levels: the pointers from the one to the other are a cycle
abbrev pub cycle_line : Cycle → List ℕ
cycle_line c =
    codes "  cycle: the path reaches pointer word " ++ (segment_word_text c.segment c.word
    ++ ((codes " at level " ++ decimal c.from_level)
    ++ ((codes ", and returns to it at level " ++ decimal c.to_level) ++ 10 ∷ [])))

-- the same, if there is such a word
abbrev pub cycle_lines : Option Cycle → List ℕ
cycle_lines None = []
cycle_lines (Some c) = cycle_line c

-- the reason as a sentence
abbrev pub reason_line : Fault → Landing → Option Target → List ℕ
reason_line fault landing target =
    codes "  reason " ++ sentence fault landing target ++ 10 ∷ []

-- the lines if the pointer word is p, by its landing pad and its target
abbrev pub lines_over : List (List ℕ) → Fault → ℕ → ℕ → Numbers → ℕ → Landing → Option Target
    → List ℕ
lines_over m fault s w k p landing target =
    (if names_pointer fault then pointer_lines m k s w p landing target else [])
    ++ excess_line m fault target k ++ cycle_lines k.cycle ++ reason_line fault landing target

-- the lines by the word that is named, if it exists
abbrev pub lines_at : List (List ℕ) → Fault → ℕ → ℕ → Numbers → Option ℕ → List ℕ
lines_at m fault s w k None = reason_line fault Near None
lines_at m fault s w k (Some p) =
    lines_over m fault s w k p (landing_of m p) (target_of s w p (landing_of m p))

-- the lines of a fault that names word w of segment s
abbrev pub lines_of : List (List ℕ) → Fault → ℕ → ℕ → Numbers → List ℕ
lines_of m fault s w k = lines_at m fault s w k (word_of m s w)

-- a long path: its first 8 steps, how many are left out, and its last 8
abbrev pub shortened : List Step → List ℕ
shortened steps = flat_map step_text (take 8 steps) ++ ((codes "/.. " ++ decimal (length steps - 16))
    ++ (codes " steps .." ++ flat_map step_text (drop (length steps - 8) steps)))

-- a path, shortened if it has more than 24 steps
abbrev pub shown_path : List Step → List ℕ
shown_path steps = if nat_lt 24 (length steps) then shortened steps else path_text steps

abbrev pub path_line : List Step → List ℕ
path_line steps = codes "  path " ++ shown_path steps ++ 10 ∷ []

-- the line of the path to a pointer, if the path isn't too long for one
abbrev pub path_explanation : List Step → List ℕ
path_explanation steps = if nat_lt 257 (length steps) then [] else path_line steps

-- the same, if there is a path
abbrev pub path_lines : Option (List Step) → List ℕ
path_lines None = []
path_lines (Some steps) = path_explanation steps

-- the line of the first pointer that uses a word which the pointer of an overlap uses too
abbrev pub earlier_line : List Step → ℕ → ℕ → List ℕ
earlier_line steps s w =
    codes "  first used by " ++ (shown_path steps ++ (codes " at " ++ (segment_word_text s w ++ 10 ∷ [])))

-- the same, if there is a path that isn't too long for a line
abbrev pub earlier_explanation : Option (List Step) → ℕ → ℕ → List ℕ
earlier_explanation None s w = []
earlier_explanation (Some steps) s w = if nat_lt 257 (length steps) then [] else earlier_line steps s w

-- the lines on a message that is refused
abbrev pub refusal_lines : List (List ℕ) → StrictRefusal → Numbers → List ℕ
refusal_lines m (refused r) k = lines_of m (Refused r.reason) r.segment r.word k
refusal_lines m many k = lines_of m ManySegments 0 0 k
refusal_lines m (not_strict what s w pointers) k = lines_of m (NotStrict what) s w k

-- the lines that explain why, with the path to the pointer
abbrev pub explanation : Option (List Step) → List (List ℕ) → StrictRefusal → Numbers → List ℕ
explanation path m refusal k = path_lines path ++ refusal_lines m refusal k

-- of an overlap or a difference there are no limits: whether the message has a segment table, and where it begins
abbrev pub overlap_numbers : Bool → Option MessageStart → Numbers
overlap_numbers has_table start = record { words = 0; depth = 0; charge = None; cycle = None; has_table = has_table; start = start }

-- the lines that explain that a pointer overlaps, of a message that has a segment table or not
abbrev pub overlap_lines : Bool → Option (List Step) → List (List ℕ) → Option MessageStart → ℕ → ℕ → List ℕ
overlap_lines has_table path m start s w = path_lines path ++ lines_of m Overlap s w (overlap_numbers has_table start)

-- the same, of a message that has one
abbrev pub overlap_explanation : Option (List Step) → List (List ℕ) → Option MessageStart → ℕ → ℕ → List ℕ
overlap_explanation path m start s w = overlap_lines true path m start s w

-- the lines that explain the first difference of an accepted message from its canonical copy, with what a copy has there
abbrev pub difference_explanation : Option (List Step) → List (List ℕ) → Option MessageStart → Difference → List ℕ
difference_explanation path m start d =
    path_lines path ++ lines_of m (Differs d.reason) d.segment d.word (overlap_numbers true start) ++ copy_lines m d d.reason
