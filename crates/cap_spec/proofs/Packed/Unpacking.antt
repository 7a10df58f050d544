-- Packed text as it is read: how many groups are looked for makes no difference,
-- and the group in front comes off whole.
use Rattle.cap_spec.proofs.Bytes.Plain.{plain_back}
use Rattle.cap_spec.proofs.ProofNames.{Bool, List, [], ap, append-nil, arith, drop, false, if◌then◌else◌, le-ltb}
use Rattle.cap_spec.proofs.ProofNames.{length, length-drop, refl, suc, sym, true, zero, ℕ, ◌%◌, ◌*◌, ◌++◌, ◌+◌, ◌/◌}
use Rattle.cap_spec.proofs.ProofNames.{◌<◌, ◌==◌, ◌∙◌, ◌∷◌, ◌≡◌, ◌≤◌, AllByRecursion, plain_text, plain_words, given_in}
use Rattle.cap_spec.proofs.ProofNames.{given_of, group_length, group_words, is_cut_in, marks, packed_is_cut, spread}
use Rattle.cap_spec.proofs.ProofNames.{unpacked, IsWord, common_steps, rules}

-- two numbers above zero: so is the one chosen
some_of : (c : Bool) (a b : ℕ) → 0 < a → 0 < b → 0 < (if c then a else b)
some_of true a b p q = p
some_of false a b p q = q

-- a group has a tag
pub group_some : (tag : ℕ) (bytes : List ℕ) → 0 < group_length (tag ∷ bytes)
group_some tag bytes = some_of (tag == 0) _ _ (omega arith) (some_of (tag == 255) _ _ (omega arith) (omega arith))

-- what is left after a group is shorter
pub drop_less : (k n x : ℕ) (bytes : List ℕ) → 0 < k → length bytes ≤ n → length (drop k (x ∷ bytes)) ≤ n
drop_less k n x bytes p q = search (rules, length-drop)

-- no bytes give no words
pub given_nil : (n : ℕ) → given_in n [] ≡ []
given_nil zero = refl
given_nil (suc n) = given_nil n

-- and aren't cut
pub cut_nil : (n : ℕ) → is_cut_in n [] ≡ false
cut_nil zero = refl
cut_nil (suc n) = cut_nil n

-- with capacity for all the groups, more capacity makes no difference to the words
pub given_stable : (n m : ℕ) (bytes : List ℕ) → length bytes ≤ n → length bytes ≤ m
    → given_in n bytes ≡ given_in m bytes
given_stable (suc n) (suc m) (x ∷ bytes) p q =
    search (rules, drop_less, group_some, given_stable n m (drop (group_length (x ∷ bytes)) (x ∷ bytes)))
given_stable n m [] p q = given_nil n ∙ sym (given_nil m)
given_stable n m bytes p q = absurd (omega arith)

-- nor to whether they are cut
pub cut_stable : (n m : ℕ) (bytes : List ℕ) → length bytes ≤ n → length bytes ≤ m
    → is_cut_in n bytes ≡ is_cut_in m bytes
cut_stable (suc n) (suc m) (x ∷ bytes) p q =
    search (rules, drop_less, group_some, cut_stable n m (drop (group_length (x ∷ bytes)) (x ∷ bytes)))
cut_stable n m [] p q = cut_nil n ∙ sym (cut_nil m)
cut_stable n m bytes p q = absurd (omega arith)

-- where the group in front is whole, its words come first, and then those of what is after it
pub unpacked_front : (bytes : List ℕ) → 0 < length bytes → group_length bytes ≤ length bytes
    → unpacked bytes ≡ group_words bytes ++ unpacked (drop (group_length bytes) bytes)
unpacked_front [] s h = absurd (omega arith)
unpacked_front (x ∷ bytes) s h = search (rules, le-ltb, given_stable, drop_less)

-- and the bytes are cut where those after it are
pub cut_front : (bytes : List ℕ) → 0 < length bytes → group_length bytes ≤ length bytes
    → packed_is_cut bytes ≡ packed_is_cut (drop (group_length bytes) bytes)
cut_front [] s h = absurd (omega arith)
cut_front (x ∷ bytes) s h = search (rules, cut_stable, drop_less)

-- where it isn't whole, its whole words are all that is given
pub unpacked_short : (bytes : List ℕ) → length bytes < group_length bytes → unpacked bytes ≡ given_of bytes
unpacked_short [] h = absurd (omega arith)
unpacked_short (x ∷ bytes) h = grind (arith, common_steps)

-- and the bytes are cut
pub cut_short : (bytes : List ℕ) → length bytes < group_length bytes → packed_is_cut bytes ≡ true
cut_short bytes h = search rules

-- a clear bit takes no byte
pub spread_clear : (n tag b : ℕ) (present : List ℕ) → tag % 2 ≡ 0
    → spread (suc n) tag (b ∷ present) ≡ 256 * spread n (tag / 2) (b ∷ present)
spread_clear n tag b present e = cc

-- a set bit takes one
pub spread_set : (n tag b : ℕ) (present : List ℕ) → tag % 2 ≡ 1
    → spread (suc n) tag (b ∷ present) ≡ b + 256 * spread n (tag / 2) present
spread_set n tag b present e = cc

-- no bits set, no byte taken
pub spread_none : (n tag : ℕ) (present : List ℕ) → marks n tag ≡ 0 → spread n tag present ≡ 0
spread_none (suc n) tag (b ∷ present) e = search (rules, spread_none n (tag / 2) (b ∷ present) (omega arith))
spread_none n tag present e = refl

-- what is after the bytes that a tag marks makes no difference to its word
pub spread_append : (n tag : ℕ) (present rest : List ℕ) → length present ≡ marks n tag
    → spread n tag (present ++ rest) ≡ spread n tag present
spread_append zero tag present rest e = refl
spread_append (suc n) tag [] rest e = spread_none (suc n) tag rest (omega arith)
spread_append (suc n) tag (b ∷ present) rest e =
    search (
      rules,
      spread_clear,
      spread_set,
      spread_append n (tag / 2) (b ∷ present) rest,
      spread_append n (tag / 2) present rest,
    )

-- the text of words reads back
pub plain_reads : (ws : List ℕ) → AllByRecursion IsWord ws → plain_words (plain_text ws) ≡ ws
plain_reads ws a = ap plain_words (sym (append-nil (plain_text ws))) ∙ (plain_back ws [] a ∙ append-nil ws)

-- how long the group in front is, at a tag that is neither 0 nor 255
pub length_marked : (tag : ℕ) (bytes : List ℕ) → 0 < tag → tag < 255 → group_length (tag ∷ bytes) ≡ 1 + marks 8 tag
length_marked tag bytes p q = grind (arith, common_steps)

-- its word there
pub words_marked : (tag : ℕ) (bytes : List ℕ) → 0 < tag → tag < 255
    → group_words (tag ∷ bytes) ≡ spread 8 tag bytes ∷ []
words_marked tag bytes p q = grind (arith, common_steps)
