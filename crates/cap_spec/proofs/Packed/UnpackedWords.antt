-- What bytes give are words: numbers below 2 ^ 64.
use Rattle.cap_spec.proofs.Bytes.Lists.{all_append, all_back}
use Rattle.cap_spec.proofs.Bytes.Plain.{plain_split}
use Rattle.cap_spec.proofs.Packed.OneUnpacking.{Becomes, becomes, part, whole}
use Rattle.cap_spec.proofs.ProofNames.{List, [], arith, replicate, slice_index, subst, suc, sym, zero, ℕ, ◌+◌, ◌/◌, ◌<◌}
use Rattle.cap_spec.proofs.ProofNames.{◌^◌, ◌∷◌, AllByRecursion, little_number, plain_text, Groups, IsGroup, Unpacks}
use Rattle.cap_spec.proofs.ProofNames.{given_of, groups_text, groups_words, marked, plain, spread, unpacked, zeros}
use Rattle.cap_spec.proofs.ProofNames.{IsWord, rules}

-- bytes by a tag make a number of this many bytes
pub spread_below : (n tag : ℕ) (present : List ℕ) → AllByRecursion (λ b. b < 256) present
    → spread n tag present < 256 ^ n
spread_below zero tag present all = omega arith
spread_below (suc n) tag [] all = search (rules, spread_below n tag [] tt)
spread_below (suc n) tag (b ∷ present) all =
    search (rules, spread_below n (tag / 2) (b ∷ present) all, spread_below n (tag / 2) present all.1)

byte_at : (bytes : List ℕ) → AllByRecursion (λ b. b < 256) bytes → (i : ℕ) → slice_index bytes i < 256
byte_at [] all i = omega arith
byte_at (b ∷ bytes) all zero = all.0
byte_at (b ∷ bytes) all (suc i) = byte_at bytes all.1 i

pub eight_bytes_below : (bytes : List ℕ) → AllByRecursion (λ b. b < 256) bytes → IsWord (little_number 8 bytes)
eight_bytes_below bytes all = search (rules, byte_at)

-- zeros are words
zeros_are_words : (n : ℕ) → AllByRecursion IsWord (replicate n 0)
zeros_are_words zero = tt
zeros_are_words (suc n) = ((omega arith), zeros_are_words n)

-- a group represents words
pub group_are_words : (bytes words : List ℕ) → IsGroup bytes words → AllByRecursion IsWord words
group_are_words bytes words (zeros n h e w) = subst (AllByRecursion IsWord) (sym w) (zeros_are_words (1 + n))
group_are_words bytes words (plain x more h all l e w) = subst (AllByRecursion IsWord) (sym w) (h, all)
group_are_words bytes words (marked tag present p q all l e w) =
    let t : spread 8 tag present < 2 ^ 64 = (let s = spread_below 8 tag present all in omega (arith, s)) in
    subst (AllByRecursion IsWord) (sym w) (t, tt)

-- so do groups
groups_are_words : (groups : Groups) → AllByRecursion (λ g. IsGroup g.0 g.1) groups
    → AllByRecursion IsWord (groups_words groups)
groups_are_words [] all = tt
groups_are_words (g ∷ groups) all = search (rules, all_append, group_are_words, groups_are_words groups all.1)

-- bytes unpack to words
pub unpacks_are_words : (bytes words : List ℕ) → Unpacks bytes words → AllByRecursion IsWord words
unpacks_are_words bytes words u = subst (AllByRecursion IsWord) (sym u.encoded) (groups_are_words u.groups u.each)

-- what is given of the beginning of a group are words
given_are_words : (bytes : List ℕ) → AllByRecursion (λ b. b < 256) bytes → AllByRecursion IsWord (given_of bytes)
given_are_words [] all = tt
given_are_words (tag ∷ bytes) all = search (rules, plain_split)

-- of bytes that become something
unpacked_by : (bytes : List ℕ) → AllByRecursion (λ b. b < 256) bytes → Becomes bytes
    → AllByRecursion IsWord (unpacked bytes)
unpacked_by bytes all (whole k u) = unpacks_are_words bytes (unpacked bytes) u
unpacked_by bytes all (part k c) =
    let after = all_back (λ b. b < 256) c.whole c.part (subst (AllByRecursion (λ b. b < 256)) c.text all) in
    subst (AllByRecursion IsWord) (sym c.given)
    (search (rules, all_append, unpacks_are_words, given_are_words))

-- packed bytes give words
pub unpacked_are_words : (bytes : List ℕ) → AllByRecursion (λ b. b < 256) bytes → AllByRecursion IsWord (unpacked bytes)
unpacked_are_words bytes all = unpacked_by bytes all (becomes bytes all)

-- the plain text of words is bytes
pub plain_are_bytes : (words : List ℕ) → AllByRecursion (λ b. b < 256) (plain_text words)
plain_are_bytes [] = tt
plain_are_bytes (x ∷ words) = search (rules, plain_are_bytes words)

-- a group is bytes
pub group_are_bytes : (bytes words : List ℕ) → IsGroup bytes words → AllByRecursion (λ b. b < 256) bytes
group_are_bytes bytes words x2 = search (rules, plain_are_bytes)

-- so are groups
groups_are_bytes : (groups : Groups) → AllByRecursion (λ g. IsGroup g.0 g.1) groups
    → AllByRecursion (λ b. b < 256) (groups_text groups)
groups_are_bytes [] all = tt
groups_are_bytes (g ∷ groups) all = search (rules, all_append, group_are_bytes, groups_are_bytes groups all.1)

-- what unpacks to words is bytes
pub unpacks_are_bytes : (bytes words : List ℕ) → Unpacks bytes words → AllByRecursion (λ b. b < 256) bytes
unpacks_are_bytes bytes words u = subst (AllByRecursion (λ b. b < 256)) (sym u.text) (groups_are_bytes u.groups u.each)
