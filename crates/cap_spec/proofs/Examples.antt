-- Small examples, computed from the definitions: each fixes what one of them says.
use Rattle.std.specs.Fmt.{digits}
use Rattle.cap_spec.specs.ObjectShapes.{is_struct}
use Rattle.cap_spec.specs.Tree.{none}
use Rattle.cap_spec.proofs.ProofNames.{[], arith, codes, lit<, lit≤, refl, replicate, true, ◌++◌, ◌∷◌, ◌≡◌, layout, trim}
use Rattle.cap_spec.proofs.ProofNames.{Denotes, two_pads, Frames, frame_text, packed_ends, pack_text, IsBadAt, IsPath}
use Rattle.cap_spec.proofs.ProofNames.{scalar_words, accepted, dump_text, segments_text, vet_text, more, null, scalars}
use Rattle.cap_spec.proofs.ProofNames.{struct, structs, packed_is_cut, unpacked, Item, Ptr}

-- two words, each by the bytes that aren't zero
pack-marked : pack_text (0x0002000300000008 ∷ 0x000001aa00000019 ∷ []) ≡ 0x51 ∷ 8 ∷ 3 ∷ 2 ∷ 0x31 ∷ 0x19 ∷ 0xaa ∷ 1 ∷ []
pack-marked = refl

-- a run of four zero words
pack-zeros : pack_text (replicate 4 0) ≡ 0 ∷ 3 ∷ []
pack-zeros = refl

-- a run of zero words is 256 long at most
pack-long_zeros : pack_text (replicate 257 0) ≡ 0 ∷ 255 ∷ 0 ∷ 0 ∷ []
pack-long_zeros = refl

-- a run of words as they are: it goes on at a word with one zero byte, and not at one with two
pack-plain : pack_text (0x0101010101010101 ∷ 0x0101010101000001 ∷ [])
    ≡ 255 ∷ 1 ∷ 1 ∷ 1 ∷ 1 ∷ 1 ∷ 1 ∷ 1 ∷ 1 ∷ 0 ∷ 0xf9 ∷ 1 ∷ 1 ∷ 1 ∷ 1 ∷ 1 ∷ 1 ∷ []
pack-plain = refl

pack-plain_on : pack_text (0x0101010101010101 ∷ 0x0101010101010001 ∷ 0x0101010101010000 ∷ [])
    ≡ 255 ∷ 1 ∷ 1 ∷ 1 ∷ 1 ∷ 1 ∷ 1 ∷ 1 ∷ 1 ∷ 1 ∷ 1 ∷ 0 ∷ 1 ∷ 1 ∷ 1 ∷ 1 ∷ 1 ∷ 1 ∷ 0xfc ∷ 1 ∷ 1 ∷ 1 ∷ 1 ∷ 1 ∷ 1 ∷ []
pack-plain_on = refl

-- a byte that is present may be zero
unpacked-present_zero : unpacked (1 ∷ 0 ∷ []) ≡ 0 ∷ []
unpacked-present_zero = refl

-- a text that ends inside a run of words as they are gives the words before that
unpacked-cut : unpacked (255 ∷ (replicate 8 0x8a ++ 2 ∷ replicate 12 0x8a))
    ≡ 0x8a8a8a8a8a8a8a8a ∷ 0x8a8a8a8a8a8a8a8a ∷ []
unpacked-cut = refl

cut-in_plain : packed_is_cut (255 ∷ (replicate 8 0x8a ++ 2 ∷ replicate 12 0x8a)) ≡ true
cut-in_plain = refl

-- the positions in groups of each kind, and in a part of one
packed_ends-groups : packed_ends 0 (0x10 ∷ 1 ∷ 0 ∷ 2 ∷ 255 ∷ (replicate 8 0x8a ++ 1 ∷ (replicate 8 7 ++ 1 ∷ 0 ∷ [])))
    ≡ 2 ∷ 4 ∷ 4 ∷ 4 ∷ 14 ∷ 22 ∷ 24 ∷ 24 ∷ []
packed_ends-groups = refl

packed_ends-cut : packed_ends 0 (255 ∷ (replicate 8 0x8a ++ 2 ∷ replicate 12 0x8a)) ≡ 10 ∷ 18 ∷ 22 ∷ []
packed_ends-cut = refl

-- Two segments, a far pointer, and a landing pad with its struct: the table is written with zero padding.
framed-far : frame_text ((0x0000000100000002 ∷ []) ∷ (0x0000000100000000 ∷ 42 ∷ []) ∷ [])
    ≡ 0x0000000100000001 ∷ 2 ∷ 0x0000000100000002 ∷ 0x0000000100000000 ∷ 42 ∷ []
framed-far = refl

-- any padding frames it too
padded-far : Frames (0x0000000100000001 ∷ 0xefbeadde00000002 ∷ 0x0000000100000002 ∷ 0x0000000100000000 ∷ 42 ∷ [])
    ((0x0000000100000002 ∷ []) ∷ (0x0000000100000000 ∷ 42 ∷ []) ∷ [])
padded-far = record {
  table = 0x0000000100000001 ∷ 0xefbeadde00000002 ∷ [];
  is_table = record {
    some = lit≤ tt;
    few = lit≤ tt;
    fit = (lit< tt, (lit< tt, tt));
    padding = 0xefbeadde ∷ [];
    padding_fits = (lit< tt, tt);
    width = refl;
    numbers = refl;
  };
  whole = refl;
}

-- Both pointers of a struct lead to one struct: the copy has it twice.
layout-shared : layout (trim (struct [] (more (struct (7 ∷ []) none) (more (struct (7 ∷ []) none) none))))
    ≡ 0x0002000000000000 ∷ 0x0000000100000004 ∷ 0x0000000100000004 ∷ 7 ∷ 7 ∷ []
layout-shared = refl

-- a list of two structs of one data word each; the second's is zero, and stays
layout-structs : layout (trim (structs 1 0 (more (struct (5 ∷ []) none) (more (struct (0 ∷ []) none) none))))
    ≡ 0x0000001700000001 ∷ 0x0000000100000008 ∷ 5 ∷ 0 ∷ []
layout-structs = refl

-- where the last data words and pointers of all elements are zero and null, they are cut from all
layout-cut : layout (trim (structs 1 1
    (more (struct (1 ∷ []) (more null none)) (more (struct (0 ∷ []) (more null none)) none))))
    ≡ 0x0000001700000001 ∷ 0x0000000100000008 ∷ 1 ∷ 0 ∷ []
layout-cut = refl

-- a struct without words isn't null
layout-empty : layout (trim (struct (0 ∷ 0 ∷ []) none)) ≡ 0x00000000fffffffc ∷ []
layout-empty = refl

-- three bits fill a word from the lowest on
words-bits : scalar_words 1 (1 ∷ 1 ∷ 1 ∷ []) ≡ 7 ∷ []
words-bits = refl

-- two landing pad words lead from segment 0 by segment 1 to a struct in segment 2, at a charge of 3
denotes-two_pads : Denotes ((0x0000000100000006 ∷ []) ∷ (0x0000000200000002 ∷ 0x0000000100000000 ∷ []) ∷ (42 ∷ []) ∷ [])
    0 0 (struct (42 ∷ []) none) 3 1
denotes-two_pads = (
  2,
  2,
  0,
  0x0000000100000000,
  0,
  1,
  0,
  0,
  0,
  record {
    object = record {
      finds = record {
        leads = two_pads 0x0000000100000006 0x0000000200000002 0x0000000100000000 refl (refl, refl) refl refl (refl, refl)
            (lit< tt, refl) refl refl;
        inside = record { exists = lit< tt; inside = lit≤ tt; composite = λ (a, b). absurd (omega (arith, a)) };
      };
      tagged = λ (a, b). absurd (omega (arith, a));
      shape = is_struct refl refl;
    };
    charge = refl;
    depth = refl;
  },
  refl,
  (refl, refl, refl),
)

-- the lines of a message of one segment of one zero word
segments-null : segments_text 0 ((0 ∷ []) ∷ [])
    ≡ codes "message 0: segments 1 words 1" ++ 10
    ∷ (codes "segment 0: 1" ++ 10 ∷ (codes "root 0000000000000000" ++ 10 ∷ []))
unfolding digits
segments-null = refl

-- where the first segment has no words there is no root
segments-none : segments_text 0 ([] ∷ [])
    ≡ codes "message 0: segments 1 words 0" ++ 10 ∷ (codes "segment 0: 0" ++ 10 ∷ (codes "root none" ++ 10 ∷ []))
unfolding digits
segments-none = refl

vet-accepted : vet_text 0 (accepted 4 2 3 0) ≡ codes "message 0: accepted charge 4 depth 2 pointers 3 caps 0" ++ 10 ∷ []
unfolding digits
vet-accepted = refl

dump-bits : dump_text (scalars 1 (1 ∷ 1 ∷ 1 ∷ []))
    ≡ codes "root list 1 3" ++ 10 ∷ (codes "  w0 0700000000000000" ++ 10 ∷ [])
unfolding digits
dump-bits = refl

-- the empty text is no path, and bad at its first byte
empty-no_path : IsPath [] → ⊥
empty-no_path ([], are, e) = cc
empty-no_path (Ptr i ∷ steps, are, e) = cc
empty-no_path (Item i ∷ steps, are, e) = cc

bad-empty : IsBadAt [] 0
bad-empty = record {
  none = empty-no_path;
  within = lit≤ tt;
  begins = record { steps = []; are = tt; rest = codes "/"; whole = refl };
  longest = λ n within begins. within;
}
