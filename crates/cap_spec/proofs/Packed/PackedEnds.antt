-- Positions in packed bytes: those of the group in front come first, and then those after it.
use Rattle.cap_spec.specs.PackedEnds.{group_ends}
use Rattle.cap_spec.proofs.Packed.Groups.{is_before, part_is_short}
use Rattle.cap_spec.proofs.Packed.Unpacking.{drop_less, group_some}
use Rattle.cap_spec.proofs.ProofNames.{List, [], ap, arith, drop, drop_at, le-ltb, length, length-append, refl, suc}
use Rattle.cap_spec.proofs.ProofNames.{sym, take, zero, ℕ, ◌++◌, ◌+◌, ◌<◌, ◌∙◌, ◌∷◌, ◌≡◌, ◌≢◌, ◌≤◌, length-replicate}
use Rattle.cap_spec.proofs.ProofNames.{ends_in, front_ends, packed_ends, word_ends, capped, IsGroup, given_of}
use Rattle.cap_spec.proofs.ProofNames.{group_length, marked, plain, zeros, common_steps, rules}

-- no bytes give only the end
pub ends_nil : (n at : ℕ) → ends_in n at [] ≡ capped at ∷ []
ends_nil zero at = refl
ends_nil (suc n) at = search (rules, ends_nil n (at + 0))

pub ends_none : (at : ℕ) → packed_ends at [] ≡ capped at ∷ []
ends_none at = refl

-- with capacity for all the groups, more capacity makes no difference
ends_stable : (n m at : ℕ) (bytes : List ℕ) → length bytes ≤ n → length bytes ≤ m
    → ends_in n at bytes ≡ ends_in m at bytes
ends_stable n m at [] p q = ends_nil n at ∙ sym (ends_nil m at)
ends_stable (suc n) (suc m) at (x ∷ bytes) p q = search (
  rules,
  drop_less,
  group_some,
  ends_stable n m (at + group_length (x ∷ bytes)) (drop (group_length (x ∷ bytes)) (x ∷ bytes)),
)
ends_stable n m at bytes p q = search rules

-- where the group in front is whole
ends_front : (at : ℕ) (bytes : List ℕ) → 0 < length bytes → group_length bytes ≤ length bytes →
    packed_ends at bytes ≡ front_ends at bytes ++ packed_ends (at + group_length bytes)
    (drop (group_length bytes) bytes)
ends_front at [] s h = absurd (omega arith)
ends_front at (x ∷ bytes) s h = search (rules, le-ltb, ends_stable, drop_less, group_some)

-- where it isn't
ends_short : (at : ℕ) (bytes : List ℕ) → length bytes < group_length bytes
    → packed_ends at bytes ≡ take (length (given_of bytes)) (front_ends at bytes) ++ capped (at + length bytes) ∷ []
ends_short at [] h = absurd (omega arith)
ends_short at (x ∷ bytes) h = grind (arith, common_steps)

-- the head of a group gives the positions of its words
front_as_group : {bytes words : List ℕ} (at : ℕ) (rest : List ℕ) (g : IsGroup bytes words)
    → front_ends at (bytes ++ rest) ≡ group_ends at g
front_as_group at rest (zeros n h e w) = ap (λ k. front_ends at (k ++ rest)) e
front_as_group at rest (plain x more h a l e w) = ap (λ k. front_ends at (k ++ rest)) e
front_as_group at rest (marked tag present p q a l e w) = grind (arith, common_steps)

-- a group in front comes off, with the positions of its words
pub ends_off : (at : ℕ) (bytes words rest : List ℕ) (g : IsGroup bytes words)
    → packed_ends at (bytes ++ rest) ≡ group_ends at g ++ packed_ends (at + length bytes) rest
ends_off at bytes words rest g =
    let f = is_before bytes words rest g in
    search (rules, length-append, ends_front, front_as_group, drop_at)

-- the words that the beginning of a group gives have the positions that they have in the whole group
part_as_group : (at tag : ℕ) (part lacking words : List ℕ) (g : IsGroup (tag ∷ (part ++ lacking)) words) →
    take (length (given_of (tag ∷ part))) (front_ends at (tag ∷ part))
    ≡ take (length (given_of (tag ∷ part))) (group_ends at g)
part_as_group at tag part lacking words (zeros n h e w) = grind (arith, common_steps)
part_as_group at tag part lacking words (plain x more h all few e w) = grind (arith, common_steps)
part_as_group at tag part lacking words (marked mark present p q all l e w) = grind (arith, common_steps)

-- the beginning of a group that isn't the whole of it: the words that it gives, and the end
pub ends_cut : (at : ℕ) (part lacking words : List ℕ) → part ≢ [] → lacking ≢ []
    → (g : IsGroup (part ++ lacking) words) →
    packed_ends at part ≡ take (length (given_of part)) (group_ends at g) ++ capped (at + length part) ∷ []
ends_cut at [] lacking words n m g = absurd (n refl)
ends_cut at (tag ∷ part) lacking words n m g =
    ends_short at (tag ∷ part) (part_is_short (tag ∷ part) lacking words n m g)
    ∙ ap (λ l. l ++ capped (at + length (tag ∷ part)) ∷ []) (part_as_group at tag part lacking words g)

word_ends_each : (at n : ℕ) → length (word_ends at n) ≡ n
word_ends_each at zero = refl
word_ends_each at (suc n) = ap suc (word_ends_each (at + 8) n)

-- each word of a group has its position
pub ends_each : (at : ℕ) (bytes words : List ℕ) (g : IsGroup bytes words) → length (group_ends at g) ≡ length words
ends_each at bytes words (zeros n h e w) = search (rules, length-replicate)
ends_each at bytes words (plain x more h all few e w) = search (rules, word_ends_each)
ends_each at bytes words (marked tag present p q all l e w) = sym (ap length w)
