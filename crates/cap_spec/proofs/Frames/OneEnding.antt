-- Of the five ways in which reading a message ends exactly one holds of every list of words.
use Rattle.cap_spec.specs.Endings.{none}
use Rattle.cap_spec.proofs.Bytes.Lists.{all_drop, all_take}
use Rattle.cap_spec.proofs.Frames.Endings.{message_not_none, message_not_partial, message_not_too_large}
use Rattle.cap_spec.proofs.Frames.Endings.{message_not_too_many, no_table, none_not_partial, too_large_not_partial}
use Rattle.cap_spec.proofs.Frames.Endings.{too_many_not_partial, too_many_not_too_large}
use Rattle.cap_spec.proofs.Frames.Framing.{length_halves}
use Rattle.cap_spec.proofs.ProofNames.{Bool, List, [], ap, append_assoc, arith, drop, drop-drop, false, flat_map, inl}
use Rattle.cap_spec.proofs.ProofNames.{inr, length, length-drop, length-take-le, refl, subst, sum, sym, take}
use Rattle.cap_spec.proofs.ProofNames.{take-append-drop, true, ℕ, ◌%◌, ◌++◌, ◌+◌, ◌/◌, ◌<◌, ◌^◌, ◌∙◌, ◌∷◌, ◌≡◌, ◌≤◌}
use Rattle.cap_spec.proofs.ProofNames.{cases_lt, sum_by-cons, AllByRecursion, BeginsMessage, Ending, EndsIn}
use Rattle.cap_spec.proofs.ProofNames.{GivesTooMany, GivesTooMuch, message, partial, too_large, too_many, IsPartial}
use Rattle.cap_spec.proofs.ProofNames.{IsTable, halves, in_contents, in_table, in_word, joined, sizes_of, IsWord}
use Rattle.cap_spec.proofs.ProofNames.{common_steps, rules}

-- words cut into segments of these sizes
abbrev pub split : List ℕ → List ℕ → List (List ℕ)
split [] words = []
split (n ∷ sizes) words = take n words ∷ split sizes (drop n words)

-- they have these sizes
pub split_sizes : (sizes words : List ℕ) → sum sizes ≤ length words → sizes_of (split sizes words) ≡ sizes
split_sizes [] words l = refl
split_sizes (n ∷ sizes) words l =
    let c = sum_by-cons (λ x. x) n sizes in
    let d = length-drop n words in
    search (rules, length-take-le, split_sizes sizes (drop n words) (omega arith))

-- and are the front of the words
pub split_joined : (sizes words : List ℕ) → words ≡ joined (split sizes words) ++ drop (sum sizes) words
split_joined [] words = refl
split_joined (n ∷ sizes) words = grind (arith, common_steps, drop-drop, split_joined sizes (drop n words))

-- the halves of a word are below 2 ^ 32
pub halves_fit : (words : List ℕ) → AllByRecursion IsWord words
    → AllByRecursion (λ n. n < 2 ^ 32) (flat_map halves words)
halves_fit [] a = tt
halves_fit (x ∷ words) a = search (rules, halves_fit words a.1)

-- the sizes in the table that begins with this word
abbrev pub sizes_in : ℕ → List ℕ → List ℕ
sizes_in first more = take (first % 2 ^ 32 + 1) (first / 2 ^ 32 ∷ flat_map halves more)

-- as many words as the first one gives are a table
pub makes_table : (first : ℕ) (more : List ℕ) → AllByRecursion IsWord (first ∷ more) → first % 2 ^ 32 < 512
    → length more ≡ (first % 2 ^ 32 + 1) / 2 → IsTable (first ∷ more) (sizes_in first more)
makes_table first more a n l =
    let h = length_halves more in
    let d = length-drop (first % 2 ^ 32 + 1) (first / 2 ^ 32 ∷ flat_map halves more) in
    search (rules, halves_fit, take-append-drop, all_take, all_drop)

-- after a table one of three is the case
pub after_table : (limit : ℕ) (words table rest sizes : List ℕ) (cut : Bool) → IsTable table sizes
    → words ≡ table ++ rest → (e : Ending) × EndsIn limit words cut e
after_table limit words table rest sizes cut t w = elim (cases_lt limit (sum sizes)) [
  | inl past ↦ search rules
  | inr within ↦ elim (cases_lt (length rest) (sum sizes)) [
    | inl short ↦ (partial, in_contents table sizes rest w t within short)
    | inr long ↦
        let s = split_sizes sizes rest long in
        let j = split_joined sizes rest in
        let a = append_assoc table (joined (split sizes rest)) (drop (sum sizes) rest) in search rules
  ]
]

-- one of the five is the case
pub some_ending : (limit : ℕ) (words : List ℕ) (cut : Bool) → AllByRecursion IsWord words
    → (e : Ending) × EndsIn limit words cut e
some_ending limit [] true a = (partial, in_word refl refl)
some_ending limit [] false a = (none, (refl, refl))
some_ending limit (first ∷ rest) cut a = elim (cases_lt 512 (first % 2 ^ 32 + 1)) [
  | inl many ↦ (too_many, record { first = first; rest = rest; whole = refl; many = many })
  | inr few ↦ elim (cases_lt (length rest) ((first % 2 ^ 32 + 1) / 2)) [
    | inl short ↦ (partial, in_table first rest refl (omega arith) short)
    | inr long ↦
        let k = (first % 2 ^ 32 + 1) / 2 in
        let more = take k rest in
        let t = makes_table first more (a.0, all_take IsWord k rest a.1) (omega arith) (length-take-le k rest long) in
        after_table limit (first ∷ rest) (first ∷ more) (drop k rest) (sizes_in first more) cut t
        (ap (λ x. first ∷ x) (sym (take-append-drop k rest)))
  ]
]

-- a message and a first word that gives too many segments: not both
pub message_too_many : (limit : ℕ) (words : List ℕ) → BeginsMessage limit words → GivesTooMany words → ⊥
message_too_many limit words b c = message_not_too_many b.own b.rest b.message c.first c.rest b.frames
    (sym b.whole ∙ c.whole) c.many

-- a message and a table past the limit: not both
pub message_too_large : (limit : ℕ) (words : List ℕ) → BeginsMessage limit words → GivesTooMuch limit words → ⊥
message_too_large limit words b c = message_not_too_large limit b.own b.rest b.message c.table c.rest c.sizes b.frames
    b.within c.is_table (sym b.whole ∙ c.whole) c.past

-- a message and a part of one: not both
pub message_partial : (limit : ℕ) (words : List ℕ) (cut : Bool) → BeginsMessage limit words
    → IsPartial limit words cut → ⊥
message_partial limit words cut b p = message_not_partial limit b.own b.rest b.message cut b.frames
    (subst (λ w. IsPartial limit w cut) b.whole p)

-- too many segments and a table past the limit: not both
pub too_many_too_large : (limit : ℕ) (words : List ℕ) → GivesTooMany words → GivesTooMuch limit words → ⊥
too_many_too_large limit words b c = too_many_not_too_large b.first b.rest c.table c.rest c.sizes b.many c.is_table
    (sym b.whole ∙ c.whole)

-- too many segments and a part of a frame: not both
pub too_many_partial : (limit : ℕ) (words : List ℕ) (cut : Bool) → GivesTooMany words → IsPartial limit words cut → ⊥
too_many_partial limit words cut b p =
    too_many_not_partial limit b.first b.rest cut b.many (subst (λ w. IsPartial limit w cut) b.whole p)

-- a table past the limit and a part of a frame: not both
pub too_large_partial : (limit : ℕ) (words : List ℕ) (cut : Bool) → GivesTooMuch limit words
    → IsPartial limit words cut → ⊥
too_large_partial limit words cut b p =
    too_large_not_partial limit b.table b.rest b.sizes cut b.is_table b.past
    (subst (λ w. IsPartial limit w cut) b.whole p)

-- no words at the end of an input: none of the other four
pub none_alone : (limit : ℕ) (words : List ℕ) (cut : Bool) (e : Ending) → words ≡ [] → cut ≡ false
    → EndsIn limit words cut e → e ≡ none
none_alone limit words cut message w c b = absurd (message_not_none b.own b.rest b.message b.frames (sym b.whole ∙ w))
none_alone limit words cut none w c b = refl
none_alone limit words cut too_many w c b = absurd (let h = b.whole in cc)
none_alone limit words cut too_large w c b = absurd (no_table b.table b.rest b.sizes b.is_table (sym w ∙ b.whole))
none_alone limit words cut partial w c b =
    absurd (none_not_partial limit (subst (λ x. IsPartial limit [] x) c (subst (λ x. IsPartial limit x cut) w b)))

-- no two of the five are the case
pub one_ending : (limit : ℕ) (words : List ℕ) (cut : Bool) (e f : Ending) → EndsIn limit words cut e
    → EndsIn limit words cut f → f ≡ e
one_ending limit words cut none f a b = none_alone limit words cut f a.0 a.1 b
one_ending limit words cut message message a b = refl
one_ending limit words cut too_many too_many a b = refl
one_ending limit words cut too_large too_large a b = refl
one_ending limit words cut partial partial a b = refl
one_ending limit words cut e none a b = sym (none_alone limit words cut e b.0 b.1 a)
one_ending limit words cut e f a b =
    search (
      rules,
      message_too_many,
      message_too_large,
      message_partial,
      too_many_too_large,
      too_many_partial,
      too_large_partial,
    )

-- words that end in none of the other four ways are part of a frame
pub partial_else : (limit : ℕ) (words : List ℕ) (cut : Bool) → AllByRecursion IsWord words →
    (BeginsMessage limit words → ⊥) → ((words ≡ []) × (cut ≡ false) → ⊥) → (GivesTooMany words → ⊥)
    → (GivesTooMuch limit words → ⊥) → IsPartial limit words cut
partial_else limit words cut all a b c d = (let e = some_ending limit words cut all in pick e.0 e.1)
  where
    pick : (e : Ending) → EndsIn limit words cut e → IsPartial limit words cut
    pick message h = absurd (a h)
    pick none h = absurd (b h)
    pick too_many h = absurd (c h)
    pick too_large h = absurd (d h)
    pick partial h = h
