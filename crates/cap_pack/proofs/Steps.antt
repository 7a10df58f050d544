-- What one answer of the unpacker does to what is known of it.
use Rattle.cap_spec.proofs.ProofNames.{List, None, OnSome, Option, Some, [], ap, false, option_map, refl, suc, true}
use Rattle.cap_spec.proofs.ProofNames.{unwrap_or, zero, ℕ, ◌++◌, ◌-◌, ◌<◌, ◌∷◌, ◌≡◌, Consumes, IsAtEnd, packed_ends}
use Rattle.cap_spec.proofs.ProofNames.{packed_is_cut, unpacked, rules}
use Rattle.cap_words.specs.declared.byte_io.Phase.{Phase}
use Rattle.cap_words.specs.declared.byte_io.Phase.TheVariants.{Open}
use Rattle.cap_pack.specs.Course.{Course, course, course_is_cut, course_places, course_words, ends, gives, stops}
use Rattle.cap_pack.specs.State.{ahead}
use Rattle.cap_pack.proofs.Courses.{course_none}
use Rattle.cap_pack.proofs.Ties.{course_reports}

-- what a new unpacker gives
pub new_words : (known : Option (List ℕ)) → option_map (λ bs. course_words (course 0 0 bs)) known ≡ option_map unpacked known
new_words None = refl
new_words (Some bytes) = ap Some (course_reports 0 bytes).0

pub new_cut : (known : Option (List ℕ)) → course_is_cut (course 0 0 (unwrap_or known [])) ≡ packed_is_cut (unwrap_or known [])
new_cut known = (course_reports 0 (unwrap_or known [])).1

pub new_places : (known : Option (List ℕ)) → OnSome known (course_places (course 0 0 (unwrap_or known [])) ≡ packed_ends 0 (unwrap_or known []))
new_places None = tt
new_places (Some bytes) = (course_reports 0 bytes).2

-- A word was given for these bytes: one course came to the other.
module _ (f g : List ℕ → Course) (w to : ℕ) (bs : List ℕ) (step : (ys : List ℕ) → f (bs ++ ys) ≡ gives w to (g ys)) where
  pub given_words : (a b : Option (List ℕ)) → Consumes a b bs
      → Consumes (option_map (λ l. course_words (f l)) a) (option_map (λ l. course_words (g l)) b) (w ∷ [])
  given_words a b p = search rules

  pub given_rest : (a b : Option (List ℕ)) → Consumes a b bs →
      OnSome (option_map (λ l. course_words (f l)) a) ((course_is_cut (g (unwrap_or b [])) ≡ course_is_cut (f (unwrap_or a [])))
      × (course_places (f (unwrap_or a [])) ≡ to ∷ course_places (g (unwrap_or b []))))
  given_rest a b p = search rules

pub left_none : (f : List ℕ → Course) (to : ℕ) (a b : Option (List ℕ)) → f [] ≡ ends to → Consumes a b [] → IsAtEnd b →
    OnSome (option_map (λ l. course_words (f l)) a) ((option_map (λ l. course_words (f l)) a ≡ Some []) × (course_is_cut (f (unwrap_or a [])) ≡ false)
    × (course_places (f (unwrap_or a [])) ≡ to ∷ []))
left_none f to a b e p q = search rules

pub left_cut : (f : List ℕ → Course) (to : ℕ) (bs : List ℕ) (a b : Option (List ℕ)) → f bs ≡ stops to → Consumes a b bs → IsAtEnd b →
    OnSome (option_map (λ l. course_words (f l)) a) ((option_map (λ l. course_words (f l)) a ≡ Some []) × (course_is_cut (f (unwrap_or a [])) ≡ true)
    × (course_places (f (unwrap_or a [])) ≡ to ∷ []))
left_cut f to bs a b e p q = search rules

pub none_words : (f g : List ℕ → Course) (to at : ℕ) (a b : Option (List ℕ)) → f [] ≡ ends to → ((l : List ℕ) → g l ≡ ends at) → Consumes a b [] → IsAtEnd b →
    Consumes (option_map (λ l. course_words (f l)) a) (option_map (λ l. course_words (g l)) b) []
none_words f g to at a b e h p q = search rules

-- a zero word that was held
pub zero_step : (phase : Phase) (z p at : ℕ) → phase ≡ Open → 0 < z → (ys : List ℕ) → ahead phase z p at ([] ++ ys) ≡ gives 0 at (ahead phase (z - 1) p at ys)
zero_step phase z p at e q ys = search rules

-- the input ends inside it
pub word_cut_step : (phase : Phase) (z p at to : ℕ) (bs : List ℕ) → phase ≡ Open → z ≡ 0 → 0 < p → ((n : ℕ) → course (suc n) at bs ≡ stops to) →
    ahead phase z p at bs ≡ stops to
word_cut_step Open zero (suc p) at to bs e o q s = s p
word_cut_step x z p at to bs e o q s = search rules

-- between groups the bytes are those of groups
pub between : (phase : Phase) (z p at : ℕ) (bs : List ℕ) (c : Course) → phase ≡ Open → z ≡ 0 → p ≡ 0 → course 0 at bs ≡ c → ahead phase z p at bs ≡ c
between phase z p at bs c e o q s = search rules

-- no group is left
pub no_group : (phase : Phase) (z p at : ℕ) → phase ≡ Open → z ≡ 0 → p ≡ 0 → ahead phase z p at [] ≡ ends at
no_group phase z p at e o q = between phase z p at [] (ends at) e o q (course_none at)
