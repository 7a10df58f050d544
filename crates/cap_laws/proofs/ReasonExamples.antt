-- Small messages: one for each reason why a pointer word can't be followed. A word of a reserved kind is among the
-- examples of trees.
use Rattle.cap_spec.specs.declared.Reason.TheVariants.{CompositeOverrun, CompositeTag, OutOfSegment, PadIsFar}
use Rattle.cap_spec.specs.declared.Reason.TheVariants.{PadNotFar, PadOutside, SegmentMissing, TagKind, TagOffset}
use Rattle.cap_spec.proofs.Pointers.Following.{wrong-composite_tag, wrong-missing, wrong-out, wrong-outside}
use Rattle.cap_spec.proofs.Pointers.Following.{wrong-overrun, wrong-pad_far, wrong-pad_near, wrong-tag_kind}
use Rattle.cap_spec.proofs.Pointers.Following.{wrong-tag_offset}
use Rattle.cap_spec.proofs.ProofNames.{[], arith, inr, lit<, lit≤, pos, refl, ◌∷◌, ints, Wrong, near, one_pad}

-- Two segments of a word each, and a root that names segment 7.
missing : Wrong ((0x0000000700000002 ∷ []) ∷ (0 ∷ []) ∷ []) 0 0 SegmentMissing
missing = wrong-missing _ 0 0 0x0000000700000002 refl refl (lit≤ tt)

-- The same, and a root with a pad of two words. The segment has one of them.
pad_outside : Wrong ((0x0000000100000006 ∷ []) ∷ (0 ∷ []) ∷ []) 0 0 PadOutside
pad_outside = wrong-outside _ 0 0 0x0000000100000006 refl refl (lit< tt) (lit< tt)

-- The same, and a root with a pad that is a far pointer itself.
pad_far : Wrong ((0x0000000100000002 ∷ []) ∷ (0x0000000000000002 ∷ []) ∷ []) 0 0 PadIsFar
pad_far = wrong-pad_far _ 0 0 0x0000000100000002 0x0000000000000002 refl (refl, refl) refl refl

-- The same, and a root with a pad that leads to a struct of one word, which its segment doesn't have.
out_of_segment : Wrong ((0x0000000100000002 ∷ []) ∷ (0x0000000100000000 ∷ []) ∷ []) 0 0 OutOfSegment
out_of_segment = wrong-out _ 0 0 1 1 (pos 1) 0x0000000100000000
    (one_pad 0x0000000100000002 0x0000000100000000 refl (refl, refl) refl (λ e. omega (arith, e))
    (lit< tt, (λ e. omega (arith, e)), refl, refl, refl) refl)
    (lit< tt, inr (omega (arith, ints)))

-- Three segments, and a root with a pad of two words. The first word of the pad isn't a far pointer.
pad_not_far : Wrong ((0x0000000100000006 ∷ []) ∷ (0 ∷ 0x0000000100000000 ∷ []) ∷ (42 ∷ []) ∷ []) 0 0 PadNotFar
pad_not_far = wrong-pad_near _ 0 0 0x0000000100000006 0 0x0000000100000000 refl (refl, refl) refl refl
    (λ (far, one). absurd (omega (arith, far)))

-- The same, and the tag of the pad is a capability.
tag_kind : Wrong ((0x0000000100000006 ∷ []) ∷ (0x0000000200000002 ∷ 3 ∷ []) ∷ (42 ∷ []) ∷ []) 0 0 TagKind
tag_kind = wrong-tag_kind _ 0 0 0x0000000100000006 0x0000000200000002 3 refl (refl, refl) refl refl
    (refl, refl) (lit< tt) (lit≤ tt)

-- The same, and the tag of the pad has an offset.
tag_offset : Wrong ((0x0000000100000006 ∷ []) ∷ (0x0000000200000002 ∷ 0x0000000100000004 ∷ []) ∷ (42 ∷ []) ∷ []) 0 0 TagOffset
tag_offset = wrong-tag_offset _ 0 0 0x0000000100000006 0x0000000200000002 0x0000000100000004 refl (refl, refl) refl refl
    (refl, refl) (lit< tt) (lit< tt) (λ e. omega (arith, e))

-- A list of two structs of a word each, whose size is one word.
overrun : Wrong ((0x0000000f00000001 ∷ 0x0000000100000008 ∷ 5 ∷ 0 ∷ 0xff ∷ []) ∷ []) 0 0 CompositeOverrun
overrun = wrong-overrun _ 0 0 0 0 1 0x0000000f00000001 0x0000000100000008
    (near 0x0000000f00000001 refl (λ e. omega (arith, e)) (lit< tt, (λ e. omega (arith, e)), refl, refl, refl) refl)
    (lit< tt) (lit≤ tt) (refl, refl) refl refl (lit< tt)

-- A list whose tag isn't laid out as a struct pointer.
composite_tag : Wrong ((0x0000001f00000001 ∷ 0x0000000100000009 ∷ 5 ∷ 0 ∷ 0xff ∷ []) ∷ []) 0 0 CompositeTag
composite_tag = wrong-composite_tag _ 0 0 0 0 1 0x0000001f00000001 0x0000000100000009
    (near 0x0000001f00000001 refl (λ e. omega (arith, e)) (lit< tt, (λ e. omega (arith, e)), refl, refl, refl) refl)
    (lit< tt) (lit≤ tt) (refl, refl) refl (λ e. omega (arith, e))
