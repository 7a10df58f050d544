-- When the words of a message are those that a copy has, one object at a time.
use Rattle.cap_spec.proofs.Lemmas.{all_append, lie_back, list_fields, struct_fields, one_word, range_length}
use Rattle.cap_spec.proofs.ProofNames.{All, List, [], arith, get_or, length, slice_get-get_or, subst, suc, sym, zero, ℕ, ◌*◌, ◌++◌, ◌+◌, ◌-◌, ◌<◌, ◌^◌}
use Rattle.cap_spec.proofs.ProofNames.{◌∷◌, ◌≡◌, ◌≤◌, eqb_tells, nil_from_length, length-map-range_with_len, mul-le}
use Rattle.cap_spec.proofs.ProofNames.{AllByRecursion, list_word, pointer_to, struct_word, Finds, values_of, words_from}
use Rattle.cap_spec.proofs.ProofNames.{HasWord, segment_of, HasWordsAt, list_size, list_words, scalar_words, Tree}
use Rattle.cap_spec.proofs.ProofNames.{Trees, more, scalars, struct, tree_count, IsWord, field, rules}
use Rattle.cap_canon.specs.InPlace.{LiesIn}
use Rattle.cap_canon.specs.Laying.{DataAt, IsPointed, OwnAt, own_size}
use Rattle.cap_canon.specs.Objects.{AreElementsLeft, IsPointersObject, IsScalarsObject, IsStructObject, IsStructsObject}
use Rattle.cap_canon.specs.Values.{used_bits}
use Rattle.cap_canon.specs.declared.objects.Part.{Part}
use Rattle.cap_canon.proofs.Filling.{scalars_size}
use Rattle.cap_canon.proofs.InPlace.{near_start}
use Rattle.cap_canon.proofs.Ranges.{range_more, range_lies, range_word, values_laid}
use Rattle.cap_canon.specs.declared.objects.Object.TheVariants as object

-- the words of a range that were read are words
pub range_words : (m : List (List ℕ)) (t b n : ℕ) → ((k : ℕ) → k < n → (x : ℕ) × HasWord m t (b + k) x × IsWord x) → AllByRecursion IsWord (words_from m t b n)
range_words m t b zero h = let e : b + 0 - b ≡ 0 = omega arith in rw e tt
range_words m t b (suc n) h =
    let x = h n (omega arith) in
    let e : n + 1 ≡ suc n = omega arith in
    subst (λ k. AllByRecursion IsWord (words_from m t b k)) e
    (subst (λ (xs : List ℕ). AllByRecursion IsWord xs) (sym (range_more m t b n x.0 x.1))
    (all_append IsWord (words_from m t b n) (x.0 ∷ []) (range_words m t b n (λ k lt. h k (omega (arith, lt)))) (x.2, tt)))

-- and the words of a range of words are there, and are words
pub range_reads : (m : List (List ℕ)) (t b n : ℕ) → b + n ≤ length (segment_of m t) → All IsWord (words_from m t b n)
    → (k : ℕ) → k < n → (x : ℕ) × HasWord m t (b + k) x × IsWord x
range_reads m t b n inside are k lt =
    let many : k < length (words_from m t b n) = omega (arith, range_length m t b n inside, lt) in (
      get_or (segment_of m t) (b + k) 0,
      slice_get-get_or (segment_of m t) (b + k) 0 (omega (arith, inside, lt)),
      subst IsWord (range_word m t b n k lt) (are k 0 many),
    )

-- a list of values is there where the last word has no bits after the last value
pub values_lie : (m : List (List ℕ)) (t b c n before x : ℕ) → c < 6 → list_words c n ≡ before + 1 → b + before < length (segment_of m t)
    → AllByRecursion IsWord (words_from m t b before) → HasWord m t (b + before) x → x ≡ field x 0 (used_bits c n before)
    → HasWordsAt (segment_of m t) b (scalar_words c (values_of m t b c n))
values_lie m t b c n before x lt e inside words last same =
    search (rules, values_laid m t b c n before x lt e inside words last, range_lies, range_more)

pub lie_values : (m : List (List ℕ)) (t b c n before x : ℕ) → c < 6 → list_words c n ≡ before + 1 → b + before < length (segment_of m t)
    → AllByRecursion IsWord (words_from m t b before) → HasWord m t (b + before) x → HasWordsAt (segment_of m t) b (scalar_words c (values_of m t b c n))
    → x ≡ field x 0 (used_bits c n before)
lie_values m t b c n before x lt e inside words last st =
    let laid = values_laid m t b c n before x lt e inside words last in
    let there : HasWordsAt (segment_of m t) b (words_from m t b before ++ field x 0 (used_bits c n before) ∷ []) = search rules in
    let l : length (words_from m t b before) ≡ before = range_length m t b before (omega (arith, inside)) in
    let back : HasWordsAt (segment_of m t) (b + before) (field x 0 (used_bits c n before) ∷ []) =
    lie_back (segment_of m t) b (b + before) (words_from m t b before) (field x 0 (used_bits c n before) ∷ []) (omega (arith, l)) there in
    one_word m t (b + before) x (field x 0 (used_bits c n before)) last back.0

-- where a list is whose pointer is the one that a copy has
pub record ListPlace (m : List (List ℕ)) (t b q c n end : ℕ) : Type 0 where
  pub segment : t ≡ 0
  pub start : b ≡ end
  pub size : list_size q ≡ n

pub list_place : (m : List (List ℕ)) (slot end k t b q c n : ℕ) → Finds m 0 slot k t b q → slot < end → end < 2 ^ 29
    → HasWord m 0 slot (list_word (end - slot - 1) c n) → c < 8 → n < 2 ^ 29 → ListPlace m t b q c n end
list_place m slot end k t b q c n f lt small h hc hn = search (rules, list_fields, near_start)

-- what is left of a struct
pub record StructPlace (m : List (List ℕ)) (u : Tree) (x : Part) (end : ℕ) : Type 0 where
  pub own : OwnAt (segment_of m 0) end u
  pub inside : end + own_size u ≤ length (segment_of m 0)
  pub place : LiesIn end (object.Struct x)

pub struct_place : (m : List (List ℕ)) (deep slot end : ℕ) (u : Tree) (x : Part) → IsStructObject m deep 0 slot u x → slot < end → end < 2 ^ 29
    → end ≤ length (segment_of m 0)
    → HasWord m 0 slot (pointer_to (end - slot - 1) u) → StructPlace m u x end
struct_place m deep slot end u x h lt small le w = search (rules, eqb_tells, range_length, struct_fields, nil_from_length, near_start, range_lies)

-- a list of pointers
pub record PointersPlace (m : List (List ℕ)) (u : Tree) (t b end : ℕ) : Type 0 where
  pub own : OwnAt (segment_of m 0) end u
  pub inside : end + own_size u ≤ length (segment_of m 0)
  pub place : (t ≡ 0) × (b ≡ end)

pub pointers_place : (m : List (List ℕ)) (deep slot end : ℕ) (u : Tree) (t b n : ℕ) → IsPointersObject m deep 0 slot u t b n → slot < end → end < 2 ^ 29
    → HasWord m 0 slot (pointer_to (end - slot - 1) u) → PointersPlace m u t b end
pointers_place m deep slot end u t b n h lt small w = search (rules, list_place)

-- a list of values
pub record ScalarsPlace (m : List (List ℕ)) (u : Tree) (c n words end : ℕ) : Type 0 where
  pub tree : u ≡ scalars c (values_of m 0 end c n)
  pub inside : end + words ≤ length (segment_of m 0)
  pub size : own_size u ≡ words

pub scalars_place : (m : List (List ℕ)) (slot end : ℕ) (u : Tree) (t b c n words : ℕ) → IsScalarsObject m 0 slot u t b c n words → slot < end → end < 2 ^ 29
    → HasWord m 0 slot (pointer_to (end - slot - 1) u) → ScalarsPlace m u c n words end
scalars_place m slot end u t b c n words h lt small w = search (rules, length-map-range_with_len, list_place, scalars_size)

-- the data words of elements of which nothing was cut
elements_at : (m : List (List ℕ)) (deep b d p : ℕ) (es : Trees) → AreElementsLeft m deep 0 b d p d p es
    → b + tree_count es * (d + p) ≤ length (segment_of m 0) → DataAt (segment_of m 0) b d p es
elements_at m deep b d p (more (struct ws us) es) a h =
    let e : suc (tree_count es) * (d + p) ≡ d + p + tree_count es * (d + p) = omega arith in
    search (rules, range_lies, elements_at m deep (b + d + p) d p es a.3 (omega (arith, h, e)))
elements_at m deep b d p es a h = search rules

-- a list of structs, from its tag on
pub record StructsPlace (m : List (List ℕ)) (x : Part) (end : ℕ) : Type 0 where
  pub segment : x.segment ≡ 0
  pub start : x.start ≡ end + 1
  pub inside : end < length (segment_of m 0)

pub structs_place : (m : List (List ℕ)) (deep slot end : ℕ) (u : Tree) (n : ℕ) (x : Part) → IsStructsObject m deep 0 slot u n x → slot < end → end < 2 ^ 29
    → HasWord m 0 slot (pointer_to (end - slot - 1) u) → StructsPlace m x end
structs_place m deep slot end u n x h lt small w = search (rules, mul-le, list_place)

-- whose tag is the one that a copy has
pub record StructsLie (m : List (List ℕ)) (u : Tree) (n : ℕ) (x : Part) (end : ℕ) : Type 0 where
  pub own : OwnAt (segment_of m 0) end u
  pub inside : end + own_size u ≤ length (segment_of m 0)
  pub place : LiesIn end (object.Structs n x)

pub structs_lie : (m : List (List ℕ)) (deep slot end : ℕ) (u : Tree) (n : ℕ) (x : Part) → IsStructsObject m deep 0 slot u n x → StructsPlace m x end
    → HasWord m 0 end (struct_word n x.data_left x.pointers_left) → StructsLie m u n x end
structs_lie m deep slot end u n x h k w = search (rules, one_word, struct_fields, elements_at)

pub pointed_word : (m : List (List ℕ)) (slot end x : ℕ) (u : Tree) → HasWord m 0 slot x → IsPointed (segment_of m 0) end slot u
    → x ≡ pointer_to (end - slot - 1) u
pointed_word m slot end x u h p = search (rules, one_word)
