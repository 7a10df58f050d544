-- What the laws of packing say (standard: Packing).
use Rattle.std.specs.List.{AllByRecursion}
use Rattle.std.specs.Prelude.{List, [], drop, false, length, take, true, ℕ, ◌++◌, ◌+◌, ◌-◌, ◌<◌, ◌↔◌, ◌∷◌, ◌≡◌, ◌≢◌}
use Rattle.std.specs.Prelude.{◌⊎◌}
use Rattle.cap_spec.specs.PackedEnds.{group_ends, packed_ends}
use Rattle.cap_spec.specs.Packing.{group_size, group_text, pack_text}
use Rattle.cap_spec.specs.Plain.{capped}
use Rattle.cap_spec.specs.Unpacking.{Cut, IsGroup, Unpacks, given_of, packed_is_cut, unpacked}

-- each list of bytes either unpacks or is cut, not both, and for exactly one list of words
abbrev pub OneUnpacking : Type 0
OneUnpacking = (bytes : List ℕ) → AllByRecursion (λ b. b < 256) bytes →
    ((words : List ℕ) × (Unpacks bytes words ⊎ Cut bytes words) × ((other : List ℕ) → Unpacks bytes other ⊎ Cut bytes other → other ≡ words))
    × ((words other : List ℕ) → Unpacks bytes words → Cut bytes other → ⊥)

-- bytes unpack to words just where they aren't cut and give these words, by the two functions
abbrev pub UnpacksAsComputed : Type 0
UnpacksAsComputed = (bytes : List ℕ) → AllByRecursion (λ b. b < 256) bytes → (words : List ℕ) →
    Unpacks bytes words ↔ (packed_is_cut bytes ≡ false) × (words ≡ unpacked bytes)

-- bytes are cut after words exactly if the two functions say so
abbrev pub CutAsComputed : Type 0
CutAsComputed = (bytes : List ℕ) → AllByRecursion (λ b. b < 256) bytes → (words : List ℕ) →
    Cut bytes words ↔ (packed_is_cut bytes ≡ true) × (words ≡ unpacked bytes)

-- the packed text of no words is empty; that of other words is the text of the group that takes
-- their longest prefix, and then the text of the words after it
abbrev pub PackedByGroups : Type 0
PackedByGroups = (pack_text [] ≡ [])
    × ((w : ℕ) (words : List ℕ) → pack_text (w ∷ words) ≡
    group_text w (group_size (w ∷ words) - 1) (take (group_size (w ∷ words) - 1) words) ++ pack_text (drop (group_size (w ∷ words) - 1) words))

-- a group has as many positions as words
abbrev pub GroupHasEnds : Type 0
GroupHasEnds = (at : ℕ) (bytes words : List ℕ) (group : IsGroup bytes words) → length (group_ends at group) ≡ length words

-- The positions in packed bytes that follow a number of bytes. Without bytes there is only that of
-- the end. If a group comes first, they are those of its words, and then those of what follows it.
-- In the beginning of a group, they are those that its words have in the whole group, and then that
-- of the end.
abbrev pub EndsByGroups : Type 0
EndsByGroups = ((at : ℕ) → packed_ends at [] ≡ capped at ∷ [])
    × ((at : ℕ) (bytes words rest : List ℕ) (group : IsGroup bytes words) → packed_ends at (bytes ++ rest) ≡ group_ends at group
    ++ packed_ends (at + length bytes) rest)
    × ((at : ℕ) (part lacking words : List ℕ) → part ≢ [] → lacking ≢ [] → (group : IsGroup (part ++ lacking) words) →
    packed_ends at part ≡ take (length (given_of part)) (group_ends at group) ++ capped (at + length part) ∷ [])
