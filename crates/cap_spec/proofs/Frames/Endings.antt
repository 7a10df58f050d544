-- The five ways in which reading a message ends: no two of them hold of the same words.
use Rattle.cap_spec.proofs.Frames.Framing.{same_table, table_length}
use Rattle.cap_spec.proofs.ProofNames.{Bool, List, [], ap, append_assoc, arith, false, length, length-append, refl, sum}
use Rattle.cap_spec.proofs.ProofNames.{sym, ℕ, ◌%◌, ◌++◌, ◌+◌, ◌/◌, ◌<◌, ◌^◌, ◌∙◌, ◌∷◌, ◌≡◌, ◌≤◌, sum_by-cons, Frames}
use Rattle.cap_spec.proofs.ProofNames.{IsPartial, IsTable, in_contents, in_table, in_word, joined, sizes_of}
use Rattle.cap_spec.proofs.ProofNames.{common_steps, rules}

-- the segments joined are as long as their sizes together
pub length_joined : (m : List (List ℕ)) → length (joined m) ≡ sum (sizes_of m)
length_joined [] = refl
length_joined (s ∷ m) = search (rules, length-append, sum_by-cons, length_joined m)

-- a frame has a first word
pub frame_some : (own : List ℕ) (m : List (List ℕ)) → Frames own m → 0 < length own
frame_some own m f = grind (arith, common_steps)

-- no words begin with a table
pub no_table : (table rest sizes : List ℕ) → IsTable table sizes → [] ≡ table ++ rest → ⊥
no_table [] rest sizes t e = cc
no_table (p ∷ table) rest sizes t e = absurd (cc)

-- what begins with a table says of at most 512 segments
pub table_few : (table rest sizes : List ℕ) (first : ℕ) (more : List ℕ) → IsTable table sizes
    → first ∷ more ≡ table ++ rest → first % 2 ^ 32 < 512
table_few [] rest sizes first more t e = cc
table_few (p ∷ table) rest sizes first more t e = grind (arith, common_steps)

-- what begins with a table isn't cut short inside one
pub table_whole : (table rest sizes : List ℕ) (first : ℕ) (more : List ℕ) → IsTable table sizes
    → first ∷ more ≡ table ++ rest → length more < (first % 2 ^ 32 + 1) / 2 → ⊥
table_whole [] rest sizes first more t e l = cc
table_whole (p ∷ table) rest sizes first more t e l =
    let h : first ≡ p = cc in
    let k = table_length (p ∷ table) sizes t in
    search (rules, length-append)

-- the table before a frame
pub frame_table : (own rest : List ℕ) (m : List (List ℕ)) → (f : Frames own m)
    → own ++ rest ≡ f.table ++ (joined m ++ rest)
frame_table own rest m f = ap (λ w. w ++ rest) f.whole ∙ append_assoc f.table (joined m) rest

-- what begins with a frame, no words: not both
pub message_not_none : (own rest : List ℕ) (m : List (List ℕ)) → Frames own m → own ++ rest ≡ [] → ⊥
message_not_none own rest m f e =
    let s = frame_some own m f in
    let l = ap length e in
    let a = length-append own rest in
    absurd (omega arith)

-- what begins with a frame, a first word that gives too many segments: not both
pub message_not_too_many : (own rest : List ℕ) (m : List (List ℕ)) (first : ℕ) (more : List ℕ) → Frames own m
    → own ++ rest ≡ first ∷ more → 512 < first % 2 ^ 32 + 1 → ⊥
message_not_too_many own rest m first more f e n =
    let h = table_few f.table (joined m ++ rest) (sizes_of m) first more f.is_table
    (sym e ∙ frame_table own rest m f) in
    absurd (omega arith)

-- what begins with a frame, a table: they have the same sizes
pub message_table : (own rest : List ℕ) (m : List (List ℕ)) (table more sizes : List ℕ) → Frames own m
    → IsTable table sizes → own ++ rest ≡ table ++ more → (sizes_of m ≡ sizes) × (joined m ++ rest ≡ more)
message_table own rest m table more sizes f t e =
    let s = same_table f.table table (joined m ++ rest) more (sizes_of m) sizes f.is_table t
    (sym (frame_table own rest m f) ∙ e) in
    (s.1, s.2)

-- what begins with a frame within the limit, a table past the limit: not both
pub message_not_too_large : (limit : ℕ) (own rest : List ℕ) (m : List (List ℕ)) (table more sizes : List ℕ)
    → Frames own m → sum (sizes_of m) ≤ limit → IsTable table sizes → own ++ rest ≡ table ++ more
    → limit < sum sizes → ⊥
message_not_too_large limit own rest m table more sizes f w t e p =
    let s = message_table own rest m table more sizes f t e in
    search rules

-- what begins with a frame is no part of one
pub message_not_partial : (limit : ℕ) (own rest : List ℕ) (m : List (List ℕ)) (cut : Bool) → Frames own m
    → IsPartial limit (own ++ rest) cut → ⊥
message_not_partial limit own rest m cut f (in_word e c) = message_not_none own rest m f e
message_not_partial limit own rest m cut f (in_table first more e n l) =
    table_whole f.table (joined m ++ rest) (sizes_of m) first more f.is_table (sym e ∙ frame_table own rest m f) l
message_not_partial limit own rest m cut f (in_contents table sizes more e t n l) =
    let s = message_table own rest m table more sizes f t e in
    search (rules, length-append, length_joined)

-- a table and a first word that gives too many segments: not both
pub too_many_not_too_large : (first : ℕ) (more table rest sizes : List ℕ) → 512 < first % 2 ^ 32 + 1
    → IsTable table sizes → first ∷ more ≡ table ++ rest → ⊥
too_many_not_too_large first more table rest sizes n t e =
    let h = table_few table rest sizes first more t e in
    absurd (omega arith)

-- a first word that gives too many segments, a part of a frame: not both
pub too_many_not_partial : (limit first : ℕ) (more : List ℕ) (cut : Bool) → 512 < first % 2 ^ 32 + 1
    → IsPartial limit (first ∷ more) cut → ⊥
too_many_not_partial limit first more cut n (in_word e c) = absurd (cc)
too_many_not_partial limit first more cut n (in_table second rest e m l) = search rules
too_many_not_partial limit first more cut n (in_contents table sizes rest e t m l) =
    search (rules, too_many_not_too_large)

-- a table past the limit, a part of a frame: not both
pub too_large_not_partial : (limit : ℕ) (table rest sizes : List ℕ) (cut : Bool) → IsTable table sizes
    → limit < sum sizes → IsPartial limit (table ++ rest) cut → ⊥
too_large_not_partial limit table rest sizes cut t p (in_word e c) = no_table table rest sizes t (sym e)
too_large_not_partial limit table rest sizes cut t p (in_table first more e n l) =
    table_whole table rest sizes first more t (sym e) l
too_large_not_partial limit table rest sizes cut t p (in_contents other counts more e s n l) =
    let q = same_table table other rest more sizes counts t s e in
    search rules

-- no words at the end of an input between words are no part of a frame
pub none_not_partial : (limit : ℕ) → IsPartial limit [] false → ⊥
none_not_partial limit (in_word e c) = absurd (cc)
none_not_partial limit (in_table first rest e n l) = absurd (cc)
none_not_partial limit (in_contents table sizes rest e t n l) = no_table table rest sizes t e
