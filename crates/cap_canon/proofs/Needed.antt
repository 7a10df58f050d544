-- How many data words are needed, from the last one down.
use Rattle.cap_spec.proofs.Frames.Messages.{short_segment}
use Rattle.cap_spec.proofs.Lemmas.{data_needed_le, range_length}
use Rattle.cap_spec.proofs.ProofNames.{List, arith, false, get_or, get_or-drop, get_or-take, if◌then◌else◌, length, max}
use Rattle.cap_spec.proofs.ProofNames.{suc, true, zero, ℕ, ◌*◌, ◌+◌, ◌-◌, ◌<◌, ◌==◌, ◌∷◌, ◌≡◌, ◌≢◌, ◌≤◌, ◌⊎◌, ◌^◌, eqb_tells, IsMessage}
use Rattle.cap_spec.proofs.ProofNames.{get_or_from_slice_get, mul-le-mul_right, data_needed, words_from, HasWord, segment_of, rules}
use Rattle.cap_canon.specs.Trimming.{most_data}

-- a word that isn't zero is needed
first_needed : (n x : ℕ) → x ≢ 0 → (((n == 0) ≡ true) × (n ≡ 0)) ⊎ (((n == 0) ≡ false) × (n ≡ 0 → ⊥))
    → (((x == 0) ≡ true) × (x ≡ 0)) ⊎ (((x == 0) ≡ false) × (x ≡ 0 → ⊥))
    → 1 ≤ (if n == 0 then (if x == 0 then 0 else 1) else suc n)
first_needed n x h k e = search rules

-- and what is needed later is needed after it
pub later_needed : (n y i : ℕ) → suc i ≤ n → (((n == 0) ≡ true) × (n ≡ 0)) ⊎ (((n == 0) ≡ false) × (n ≡ 0 → ⊥)) → suc (suc i) ≤ (if n == 0 then y else suc n)
later_needed n y i h k = search rules

pub needed_past : (ws : List ℕ) (i : ℕ) → get_or ws i 0 ≢ 0 → suc i ≤ data_needed ws
needed_past (x ∷ xs) (suc i) h = later_needed (data_needed xs) (if x == 0 then 0 else 1) i (needed_past xs i h) (eqb_tells (data_needed xs) 0)
needed_past xs i h = search (rules, first_needed, eqb_tells)

-- a zero word that is last of those needed isn't needed
first_zero : (n x : ℕ) → x ≡ 0 → (((n == 0) ≡ true) × (n ≡ 0)) ⊎ (((n == 0) ≡ false) × (n ≡ 0 → ⊥)) → (if n == 0 then (if x == 0 then 0 else 1) else suc n) ≤ 1
    → (if n == 0 then (if x == 0 then 0 else 1) else suc n) ≤ 0
first_zero n x e k h = search rules

pub later_zero : (n y i : ℕ) → (n ≤ suc i → n ≤ i) → y ≤ 1 → (((n == 0) ≡ true) × (n ≡ 0)) ⊎ (((n == 0) ≡ false) × (n ≡ 0 → ⊥))
    → (if n == 0 then y else suc n) ≤ suc (suc i) → (if n == 0 then y else suc n) ≤ suc i
later_zero n y i r s k h = search rules

one_at_most : (x : ℕ) → (((x == 0) ≡ true) × (x ≡ 0)) ⊎ (((x == 0) ≡ false) × (x ≡ 0 → ⊥)) → (if x == 0 then 0 else 1) ≤ 1
one_at_most x h = search rules

pub not_needed : (ws : List ℕ) (i : ℕ) → get_or ws i 0 ≡ 0 → data_needed ws ≤ suc i → data_needed ws ≤ i
not_needed (x ∷ xs) (suc i) e h = search (rules, later_zero, one_at_most, eqb_tells, not_needed xs i e)
not_needed xs i e h = search (rules, first_zero, eqb_tells)

-- a word of a range is that of its segment
pub word_of_range : (m : List (List ℕ)) (s b n i x : ℕ) → i < n → HasWord m s (b + i) x → get_or (words_from m s b n) i 0 ≡ x
word_of_range m s b n i x lt h = search (rules, get_or-take, get_or-drop, get_or_from_slice_get)

-- no more are needed than there are
pub range_needed : (m : List (List ℕ)) (s b n : ℕ) → b + n ≤ length (segment_of m s) → data_needed (words_from m s b n) ≤ n
range_needed m s b n h = let e : length (words_from m s b n) ≡ n = range_length m s b n h in omega (arith, e, data_needed_le (words_from m s b n))

-- no element needs more than its size
pub most_within : (m : List (List ℕ)) (t b ds ps n : ℕ) → b + n * (ds + ps) ≤ length (segment_of m t) → most_data m t b ds ps n ≤ ds
most_within m t b ds ps zero h = omega arith
most_within m t b ds ps (suc n) h = search (rules, range_needed, most_within m t (b + (ds + ps)) ds ps n (omega (arith, h)))

-- the word looked at is needed, so that nothing below it is cut
pub needed_here : (m : List (List ℕ)) (s b n left least x : ℕ) → least < left → left ≤ n → HasWord m s (b + (left - 1)) x → x ≢ 0
    → data_needed (words_from m s b n) ≤ left
    → left ≡ max least (data_needed (words_from m s b n))
needed_here m s b n left least x lt le h nz most =
    let i : left - 1 < n = omega (arith, lt, le) in
    let e : get_or (words_from m s b n) (left - 1) 0 ≡ x = word_of_range m s b n (left - 1) x i h in
    search (rules, needed_past)

-- and one that is zero isn't
pub needed_below : (m : List (List ℕ)) (s b n left least x : ℕ) → least < left → left ≤ n → HasWord m s (b + (left - 1)) x → x ≡ 0
    → data_needed (words_from m s b n) ≤ left
    → data_needed (words_from m s b n) ≤ left - 1
needed_below m s b n left least x lt le h z most = search (rules, word_of_range, not_needed)

-- one element more
pub most_on : (a b m r : ℕ) → a ≡ max m b → max a r ≡ max m (max b r)
most_on a b m r e = omega (arith, e)

-- a turn of the loop over elements, at the one after the first i
pub record ElementsSeen (m : List (List ℕ)) (s start at ds ps count i most : ℕ) : Type 0 where
  pub place : at ≡ start + i * (ds + ps)
  pub within : most ≤ ds
  pub rest : max most (most_data m s at ds ps (count - i)) ≡ most_data m s start ds ps count

pub element_seen : {m : List (List ℕ)} {s start at ds ps count i most now : ℕ} → i < count → now ≡ max most (data_needed (words_from m s at ds)) → now ≤ ds
    → ElementsSeen m s start at ds ps count i most → ElementsSeen m s start (at + (ds + ps)) ds ps count (i + 1) now
element_seen {count = count} {i = i} lt e w k =
    let n : count - i ≡ suc (count - (i + 1)) = omega (arith, lt) in search (rules, most_on)

-- all have their size already
pub enough_seen : (m : List (List ℕ)) (s start at ds ps count i most : ℕ) → i < count → start + count * (ds + ps) ≤ length (segment_of m s) → most ≡ ds
    → ElementsSeen m s start at ds ps count i most → most ≡ most_data m s start ds ps count
enough_seen m s start at ds ps count i most lt h e k = search (rules, most_within)

-- The places of an element's words have 32 bits.
pub element_small : (m : List (List ℕ)) (s start at ds ps count i : ℕ) → IsMessage m → s < length m
    → start + count * (ds + ps) ≤ length (segment_of m s) → at ≡ start + i * (ds + ps) → i < count → at + ds + ps < 2 ^ 32
element_small m s start at ds ps count i is exists inside place lt =
    let few = short_segment m s is exists in
    let within : start + i * (ds + ps) + ds + ps ≤ length (segment_of m s) = search (rules, mul-le-mul_right) in
    omega (arith, few, within, place)
