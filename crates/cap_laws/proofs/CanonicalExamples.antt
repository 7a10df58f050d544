-- A small tree that meets what the laws of the canonical form ask, and its trimmed layout.
use Rattle.cap_spec.specs.Tree.{none}
use Rattle.cap_spec.proofs.Canonical.Layouts.{layout_denotes, trimmed_layout_denotes}
use Rattle.cap_spec.proofs.Canonical.TreeMeasures.{Fits}
use Rattle.cap_spec.proofs.Canonical.TrimmedTrees.{trimmed_is_tree}
use Rattle.cap_laws.specs.TrimmingLaws.{Extends}
use Rattle.cap_laws.proofs.Trimming.{extends_alike, trimmed_extends}
use Rattle.cap_spec.proofs.ProofNames.{[], lit<, refl, ℕ, ◌∷◌, ◌≡◌, ◌≤◌, layout, offsets, trim, Denotes, Tree, more, null}
use Rattle.cap_spec.proofs.ProofNames.{scalars, struct, structs, rules, IsTree, pointers, suc, zero}

-- a struct with a zero word and a null pointer at its end,
-- which leads to a list of three bits and to a list of two structs with a null pointer each
abbrev untrimmed : Tree
untrimmed = struct (5 ∷ 0 ∷ []) (more (scalars 1 (1 ∷ 0 ∷ 1 ∷ []))
    (more (structs 1 1 (more (struct (7 ∷ []) (more null none))
    (more (struct (0 ∷ []) (more null none)) none))) (more null none)))

fits-untrimmed : Fits untrimmed
fits-untrimmed = search rules

-- some message denotes it, at a charge of 11 and a depth of 3
denotes-untrimmed : Denotes (layout untrimmed ∷ []) 0 0 untrimmed 11 3
denotes-untrimmed = layout_denotes untrimmed fits-untrimmed (lit< tt)

-- so that the law speaks of it
denotes-trimmed : (c' : ℕ) × Denotes (layout (trim untrimmed) ∷ []) 0 0 (trim untrimmed) c' 3 × (c' ≤ 11)
denotes-trimmed = trimmed_layout_denotes (layout untrimmed ∷ []) 0 0 untrimmed 11 3 denotes-untrimmed (lit< tt)

-- The tree is the trimmed one with a zero word and a null pointer more at the root, and a null pointer more in each
-- element. The zero word of the second element stays, since the first needs its word.
is_tree-untrimmed : IsTree untrimmed
is_tree-untrimmed = search rules

extends-trimmed : Extends untrimmed (trim untrimmed)
extends-trimmed = trimmed_extends untrimmed is_tree-untrimmed

same-trimmed : trim untrimmed ≡ trim (trim untrimmed)
same-trimmed =
    extends_alike (trim untrimmed) untrimmed (trimmed_is_tree untrimmed is_tree-untrimmed) extends-trimmed

-- no tree is another one without a word that isn't zero, or without a pointer that isn't null
keeps-word : ¬ Extends (struct (5 ∷ []) none) (struct [] none)
keeps-word (zero, b, ts, e, x) = cc
keeps-word (suc a, b, ts, e, x) = cc

keeps-pointer : ¬ Extends (pointers (more null none)) (pointers none)
keeps-pointer (ts, e, x) = cc

-- the zero word, the null pointer and each element's null pointer are gone
layout-trimmed : layout (trim untrimmed)
    ≡ 0x0002000100000000 ∷ 5 ∷ 0x0000001900000005 ∷ 0x0000001700000005 ∷ 5 ∷ 0x0000000100000008 ∷ 7 ∷ 0 ∷ []
layout-trimmed = refl

-- both pointers of the struct lead over one word, the first over the second and the second over the bits
offsets-trimmed : offsets (trim untrimmed) ≡ 1 ∷ 1 ∷ []
offsets-trimmed = refl

-- and so do those of elements, the first over the second and the second over what the first leads to
offsets-elements : offsets (structs 0 1
    (more (struct [] (more (struct (7 ∷ []) none) none))
    (more (struct [] (more (struct (8 ∷ []) none) none)) none))) ≡ 1 ∷ 1 ∷ []
offsets-elements = refl
