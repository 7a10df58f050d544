-- The lines that the program writes (profile).
use Rattle.std.specs.Prelude.{Bool, List, None, Option, Some, [], codes, decimal, flat_map, if◌then◌else◌, length}
use Rattle.std.specs.Prelude.{nat_lt, replicate, sum, ℕ, ◌%◌, ◌*◌, ◌++◌, ◌+◌, ◌/◌, ◌==◌, ◌∷◌}
use Rattle.cap_spec.specs.Frames.{sizes_of}
use Rattle.cap_spec.specs.Messages.{root_of}
use Rattle.cap_spec.specs.Plain.{word_bytes}
use Rattle.cap_spec.specs.Scalars.{scalar_words}
use Rattle.cap_spec.specs.Tree.{Tree, Trees, cap, more, none, null, pointers, scalars, struct, structs, tree_count}
use Rattle.cap_spec.specs.declared.Lax.{Lax}
use Rattle.cap_spec.specs.declared.Lax.TheVariants.{CapabilityPad, EmptySegment, NullPad}
use Rattle.cap_spec.specs.declared.Reason.{Reason}
use Rattle.cap_spec.specs.declared.Reason.TheVariants.{CompositeOverrun, CompositeTag, DepthLimit, NoRoot, OutOfSegment}
use Rattle.cap_spec.specs.declared.Reason.TheVariants.{PadIsFar, PadNotFar, PadOutside, Reserved, SegmentMissing}
use Rattle.cap_spec.specs.declared.Reason.TheVariants.{TagKind, TagOffset, WordLimit}
use Rattle.cap_spec.specs.declared.Refusal.{Refusal}
use Rattle.cap_spec.specs.declared.StrictRefusal.{StrictRefusal}
use Rattle.cap_spec.specs.declared.StrictRefusal.TheVariants.{ManySegments, Pointer, Refused}

-- a lower-case digit, and the two of a byte
abbrev pub hex_digit : ℕ → ℕ
hex_digit n = if nat_lt n 10 then 48 + n else 87 + n

-- the 16 digits of a word's bytes
abbrev pub hex : ℕ → List ℕ
hex w = flat_map (λ b. hex_digit (b / 16) ∷ hex_digit (b % 16) ∷ []) (word_bytes w)

-- a space, and a number after one
abbrev pub then_number : ℕ → List ℕ
then_number n = 32 ∷ decimal n

-- a line at a level of nesting
abbrev pub line : ℕ → List ℕ → List ℕ
line level text = replicate (2 * level) 32 ++ text ++ 10 ∷ []

-- a letter and a place
abbrev pub label : ℕ → ℕ → List ℕ
label letter i = letter ∷ decimal i

abbrev pub word_lines : ℕ → ℕ → ℕ → List ℕ → List ℕ
word_lines level letter i [] = []
word_lines level letter i (w ∷ ws) = line level (label letter i ++ 32 ∷ hex w) ++ word_lines level letter (i + 1) ws

abbrev pub head : Tree → List ℕ
head null = codes "null"
head (cap i) = codes "cap" ++ then_number i
head (struct words ts) = codes "struct" ++ then_number (length words) ++ then_number (tree_count ts)
head (scalars c vs) = codes "list" ++ then_number c ++ then_number (length vs)
head (pointers ts) = codes "pointers" ++ then_number (tree_count ts)
head (structs d p es) = codes "structs" ++ then_number (tree_count es) ++ then_number d ++ then_number p

-- its own words, at this level
abbrev pub own_lines : ℕ → Tree → List ℕ
own_lines level (struct words ts) = word_lines level 100 0 words
own_lines level (scalars c vs) = word_lines level 119 0 (scalar_words c vs)
own_lines level _ = []

-- a node's line and its own words
abbrev pub own_text : ℕ → List ℕ → Tree → List ℕ
own_text level name t = line level (name ++ 32 ∷ head t) ++ own_lines (level + 1) t

abbrev mutual
  -- the children of a node, at this level
  pub child_lines : ℕ → Tree → List ℕ
  child_lines level null = []
  child_lines level (cap i) = []
  child_lines level (struct words ts) = all_lines level 112 0 ts
  child_lines level (scalars c vs) = []
  child_lines level (pointers ts) = all_lines level 105 0 ts
  child_lines level (structs d p es) = if (d + p) == 0 then [] else all_lines level 105 0 es

  -- each with its letter and place, its own words and its children
  pub all_lines : ℕ → ℕ → ℕ → Trees → List ℕ
  all_lines level letter i none = []
  all_lines level letter i (more t ts) = own_text level (label letter i) t ++ child_lines (level + 1) t ++ all_lines level letter (i + 1) ts

abbrev pub dump_text : Tree → List ℕ
dump_text t = own_text 0 (codes "root") t ++ child_lines 1 t

-- what is said of a message: its charge, depth, pointers and capabilities, or the reason, the place and the pointers
pub data Verdict : Type 0 where
  accepted : ℕ → ℕ → ℕ → ℕ → Verdict
  refused : List ℕ → ℕ → ℕ → ℕ → Verdict

abbrev pub message_text : ℕ → List ℕ → List ℕ
message_text n text = codes "message" ++ then_number n ++ codes ": " ++ text ++ 10 ∷ []

abbrev pub vet_text : ℕ → Verdict → List ℕ
vet_text n (accepted c d p k) =
    message_text n (codes "accepted charge" ++ then_number c ++ codes " depth" ++ then_number d
    ++ codes " pointers" ++ then_number p ++ codes " caps" ++ then_number k)
vet_text n (refused name s w p) =
    message_text n (codes "refused " ++ name ++ codes " at" ++ then_number s ++ 58 ∷ decimal w ++ codes " pointers" ++ then_number p)

-- a line for each size, by the segment's number, from this number on
abbrev pub segment_lines : ℕ → List ℕ → List ℕ
segment_lines s [] = []
segment_lines s (n ∷ ns) = line 0 (codes "segment" ++ then_number s ++ 58 ∷ then_number n) ++ segment_lines (s + 1) ns

-- a root word, or that there is none
abbrev pub root_text : Option ℕ → List ℕ
root_text None = codes "none"
root_text (Some w) = hex w

-- what is written of a message whose segments have these sizes, by its root word
abbrev pub outline_text : ℕ → List ℕ → Option ℕ → List ℕ
outline_text n sizes root =
    message_text n (codes "segments" ++ then_number (length sizes) ++ codes " words" ++ then_number (sum sizes))
    ++ segment_lines 0 sizes ++ line 0 (codes "root " ++ root_text root)

-- what is written of message n: how many segments and words it has, the size of each segment, and the root word
abbrev pub segments_text : ℕ → List (List ℕ) → List ℕ
segments_text n m = outline_text n (sizes_of m) (root_of m)

-- the name of a reason, as it is printed
abbrev pub reason_name : Reason → List ℕ
reason_name NoRoot = codes "NoRoot"
reason_name Reserved = codes "Reserved"
reason_name SegmentMissing = codes "SegmentMissing"
reason_name PadOutside = codes "PadOutside"
reason_name PadIsFar = codes "PadIsFar"
reason_name PadNotFar = codes "PadNotFar"
reason_name TagKind = codes "TagKind"
reason_name TagOffset = codes "TagOffset"
reason_name OutOfSegment = codes "OutOfSegment"
reason_name CompositeTag = codes "CompositeTag"
reason_name CompositeOverrun = codes "CompositeOverrun"
reason_name DepthLimit = codes "DepthLimit"
reason_name WordLimit = codes "WordLimit"

abbrev pub refusal_verdict : Refusal → Verdict
refusal_verdict r = refused (reason_name r.reason) r.segment r.word r.pointers

-- the name of a form that common readers reject
abbrev pub lax_name : Lax → List ℕ
lax_name NullPad = codes "NullPad"
lax_name EmptySegment = codes "EmptySegment"
lax_name CapabilityPad = codes "CapabilityPad"

-- why a message isn't strict
abbrev pub strict_verdict : StrictRefusal → Verdict
strict_verdict (Refused r) = refusal_verdict r
strict_verdict ManySegments = refused (codes "ManySegments") 0 0 0
strict_verdict (Pointer what s w n) = refused (lax_name what) s w n

-- the line of a message that was checked, where it is accepted
abbrev pub check_text : ℕ → Bool → List ℕ
check_text n is_canonical = message_text n (if is_canonical then codes "canonical" else codes "not canonical")

-- the node at a path, or that there is none, where the message is accepted
abbrev pub get_text : ℕ → Option Tree → List ℕ
get_text n None = message_text n (codes "none")
get_text n (Some t) = message_text n (codes "found") ++ own_text 0 (codes "node") t
