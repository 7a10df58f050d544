-- The words that a pointer leads through, and where its target is, as far as the message has them
-- (profile).
use Rattle.std.specs.Prelude.{Bool, List, None, Option, Some, false, if◌then◌else◌, length, nat_lt, slice_get, sum, ℕ, ◌*◌}
use Rattle.std.specs.Prelude.{◌+◌, ◌-◌, ◌/◌, ◌==◌}
use Rattle.cap_spec.specs.Frames.{sizes_of}
use Rattle.cap_spec.specs.Messages.{segment_of}
use Rattle.cap_spec.specs.Pointers.{far_segment, kind, middle, pad, two}
use Rattle.cap_frame.specs.SegmentStarts.{start_of}
use Rattle.cap_ptr.specs.Shapes.{is_structs}
use Rattle.cap_explain.specs.FormTexts.{excess}
use Rattle.cap_explain.specs.declared.landing.Landing.{Landing}
use Rattle.cap_explain.specs.declared.landing.Landing.TheVariants.{Missing, Near, One, Outside, Two}
use Rattle.cap_explain.specs.declared.target.Target.{Target}

-- word w of segment s, if there is one
abbrev pub word_of : List (List ℕ) → ℕ → ℕ → Option ℕ
word_of m s w = slice_get (segment_of m s) w

-- the words of the segment table of a message, or none if the message has no table
abbrev pub message_table_words : Bool → List (List ℕ) → ℕ
message_table_words has_table m = if has_table then length m / 2 + 1 else 0

-- the first byte of that word in the message, its segment table included if it has one
abbrev pub first_byte_of : Bool → List (List ℕ) → ℕ → ℕ → ℕ
first_byte_of has_table m s w = 8 * (message_table_words has_table m + start_of m s + w)

-- the words of the frame of a message: its segment table, and the words of its segments
abbrev pub frame_words : List (List ℕ) → ℕ
frame_words m = length m / 2 + 1 + sum (sizes_of m)

-- a landing pad of two words, as far as its second word exists
abbrev pub two_words : ℕ → Option ℕ → Landing
two_words far None = Outside
two_words far (Some tag) = Two far tag

-- a landing pad, as far as its words exist
abbrev pub landing_words : ℕ → Option ℕ → Option ℕ → Landing
landing_words long None second = Outside
landing_words long (Some first) second = if long == 0 then One first else two_words first second

-- the landing pad of a pointer word
abbrev pub landing_of : List (List ℕ) → ℕ → Landing
landing_of m p =
    if kind p == 2 then
    (if nat_lt (far_segment p) (length m) then
    landing_words (two p) (word_of m (far_segment p) (pad p)) (word_of m (far_segment p) (pad p + 1))
    else Missing) else Near

-- a word is a far pointer to a landing pad of one word
abbrev pub is_short_far : ℕ → Bool
is_short_far p = if kind p == 2 then two p == 0 else false

-- the target of a struct or list pointer at word w of segment t
abbrev pub target_after : ℕ → ℕ → ℕ → Option Target
target_after t w p =
    if p == 0 then None else
    (if nat_lt (kind p) 2 then Some (record {
      segment = t;
      start = w + 1 + middle p;
      excess = excess (middle p);
      word = p;
    }) else None)

-- the target that the two words of a landing pad lead to
abbrev pub target_over : ℕ → ℕ → Option Target
target_over far tag =
    if is_short_far far then
    (if nat_lt (kind tag) 2 then
    (if middle tag == 0 then Some (record {
      segment = far_segment far;
      start = pad far;
      excess = 0;
      word = tag;
    }) else None) else None) else None

-- the target of the pointer p at word w of segment s, by its landing pad
abbrev pub target_of : ℕ → ℕ → ℕ → Landing → Option Target
target_of s w p Near = target_after s w p
target_of s w p Missing = None
target_of s w p Outside = None
target_of s w p (One word) = target_after (far_segment p) (pad p) word
target_of s w p (Two far tag) = target_over far tag

-- the segment that the pointer p in segment s leads into, by its landing pad
abbrev pub segment_after : ℕ → ℕ → Landing → ℕ
segment_after s p Near = s
segment_after s p Missing = far_segment p
segment_after s p Outside = far_segment p
segment_after s p (One word) = far_segment p
segment_after s p (Two far tag) = if is_short_far far then far_segment far else far_segment p

-- the tag of a list of structs, if its target begins inside its segment
abbrev pub list_tag : List (List ℕ) → Target → Option ℕ
list_tag m t =
    if is_structs t.word then
    (if nat_lt t.start t.excess then None else word_of m t.segment (t.start - t.excess)) else None
