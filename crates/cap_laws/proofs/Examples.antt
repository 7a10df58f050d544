-- Small examples: the premises of the laws of framing and packing are met,
-- and each of the ways in which reading ends comes about.
use Rattle.cap_spec.specs.Endings.{none}
use Rattle.cap_spec.proofs.Frames.Streams.{stream_cons, stream_none}
use Rattle.cap_spec.proofs.Lemmas.{frame_text_frames, plain_reads}
use Rattle.cap_spec.proofs.Packed.OneUnpacking.{cut_if_cut, unpacks_unless_cut}
use Rattle.cap_spec.proofs.Packed.Repacking.{pack_text_reads}
use Rattle.cap_spec.proofs.ProofNames.{List, [], arith, false, lit<, refl, replicate, true, ℕ, ◌∷◌, ◌≡◌, common_steps}
use Rattle.cap_spec.proofs.ProofNames.{AllByRecursion, EndsIn, message, partial, too_large, too_many, Frames, IsTable}
use Rattle.cap_spec.proofs.ProofNames.{Stream, in_contents, in_table, in_word, IsMessage, pack_text, plain_text, rules}
use Rattle.cap_spec.proofs.ProofNames.{plain_words, Cut, Unpacks, unpacked, IsWord}

-- the table of one segment of one word
table-one : IsTable (0x100000000 ∷ []) (1 ∷ [])
table-one = grind (arith, common_steps)

-- and its frame
frame-one : Frames (0x100000000 ∷ 7 ∷ []) ((7 ∷ []) ∷ [])
frame-one = record { table = 0x100000000 ∷ []; is_table = table-one; whole = refl }

-- two of them are a stream
stream-two : Stream (0x100000000 ∷ 7 ∷ 0x100000000 ∷ 7 ∷ []) (((7 ∷ []) ∷ []) ∷ ((7 ∷ []) ∷ []) ∷ [])
stream-two = stream_cons (0x100000000 ∷ 7 ∷ []) (0x100000000 ∷ 7 ∷ []) ((7 ∷ []) ∷ []) (((7 ∷ []) ∷ []) ∷ []) frame-one
    (stream_cons (0x100000000 ∷ 7 ∷ []) [] ((7 ∷ []) ∷ []) [] frame-one stream_none)

-- a message within the limit, with a word after it
ends-message : EndsIn 1 (0x100000000 ∷ 7 ∷ 9 ∷ []) false message
ends-message = search (rules, frame-one)

-- nothing, between words
ends-none : EndsIn 1 [] false none
ends-none = (refl, refl)

-- 513 segments
ends-too_many : EndsIn 1 (512 ∷ []) false too_many
ends-too_many = record { first = 512; rest = []; whole = refl; many = omega arith }

-- one word past a limit of none
ends-too_large : EndsIn 0 (0x100000000 ∷ 7 ∷ []) false too_large
ends-too_large = search (rules, table-one)

-- inside a word, inside a table of two words, and inside the contents
ends-in_word : EndsIn 1 [] true partial
ends-in_word = in_word refl refl

ends-in_table : EndsIn 1 (1 ∷ []) false partial
ends-in_table = in_table 1 [] refl (omega arith) (omega arith)

ends-in_contents : EndsIn 1 (0x100000000 ∷ []) false partial
ends-in_contents = in_contents (0x100000000 ∷ []) (1 ∷ []) [] refl table-one (omega arith) (omega arith)

-- four zero words, packed
unpacks-zeros : Unpacks (0 ∷ 3 ∷ []) (replicate 4 0)
unpacks-zeros = unpacks_unless_cut (0 ∷ 3 ∷ []) ((omega arith), ((omega arith), tt)) refl

-- a run of zero words without its count, after a word
cut-zeros : Cut (1 ∷ 9 ∷ 0 ∷ []) (9 ∷ [])
cut-zeros = cut_if_cut (1 ∷ 9 ∷ 0 ∷ []) ((omega arith), ((omega arith), ((omega arith), tt))) refl

-- a message of two segments, one of them without words, and its frame with zero padding
abbrev small : List (List ℕ)
small = (7 ∷ []) ∷ [] ∷ []

message-small : IsMessage small
message-small = search rules

frame-small : Frames (0x100000001 ∷ 0 ∷ 7 ∷ []) small
frame-small = frame_text_frames small message-small

-- the smallest and the greatest word, and one between
words-three : AllByRecursion IsWord (0 ∷ 7 ∷ 0xffffffffffffffff ∷ [])
words-three = (lit< tt, (lit< tt, (lit< tt, tt)))

plain-three : plain_words (plain_text (0 ∷ 7 ∷ 0xffffffffffffffff ∷ [])) ≡ 0 ∷ 7 ∷ 0xffffffffffffffff ∷ []
plain-three = plain_reads (0 ∷ 7 ∷ 0xffffffffffffffff ∷ []) words-three

packed-three : unpacked (pack_text (0 ∷ 7 ∷ 0xffffffffffffffff ∷ [])) ≡ 0 ∷ 7 ∷ 0xffffffffffffffff ∷ []
packed-three = (pack_text_reads (0 ∷ 7 ∷ 0xffffffffffffffff ∷ []) words-three).0
