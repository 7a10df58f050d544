-- Tables and frames: words begin with at most one of each, and what that one is.
use Rattle.std.proofs.Common.{List, [], ap, append_assoc, arith, flat_map, length, length-append, refl, ℕ, ◌%◌, ◌*◌}
use Rattle.std.proofs.Common.{◌++◌, ◌+◌, ◌/◌, ◌^◌, ◌∷◌, ◌≡◌, rules}
use Rattle.cap_spec.specs.Frames.{Frames, IsTable, halves, joined, sizes_of}

-- two lists of one length, each with more after it, that make the same list are the same, and so is what is after
pub same_parts : {A : Type 0} → (a b x y : List A) → length a ≡ length b → a ++ x ≡ b ++ y → (a ≡ b) × (x ≡ y)
same_parts [] [] x y l e = (refl, e)
same_parts (c ∷ a) (d ∷ b) x y l e = search (rules, same_parts a b x y (omega arith) (cc))
same_parts a b x y l e = search rules

-- two halves a word
pub length_halves : (a : List ℕ) → length (flat_map halves a) ≡ 2 * length a
length_halves [] = refl
length_halves (x ∷ a) = let t = length_halves a in omega arith

-- the first word of a table says how many segments there are
pub table_count : (first : ℕ) (more sizes : List ℕ) → IsTable (first ∷ more) sizes → first % 2 ^ 32 + 1 ≡ length sizes
table_count first more sizes t = search rules

-- how many words a table has
pub table_length : (table sizes : List ℕ) → IsTable table sizes → length table ≡ length sizes / 2 + 1
table_length table sizes t =
    let e = ap length t.numbers in
    search (rules, length_halves, length-append)

-- words begin with at most one table
pub same_table : (a b x y m n : List ℕ) → IsTable a m → IsTable b n → a ++ x ≡ b ++ y → (a ≡ b) × (m ≡ n) × (x ≡ y)
same_table (p ∷ a) (q ∷ b) x y m n s t e =
    let h : p ≡ q = cc in
    let c : p % 2 ^ 32 + 1 ≡ length m = table_count p a m s in
    let d : q % 2 ^ 32 + 1 ≡ length n = table_count q b n t in
    let k : length (p ∷ a) ≡ length (q ∷ b) =
    (let u = table_length (p ∷ a) m s in let v = table_length (q ∷ b) n t in omega arith) in
    search (rules, same_parts)
same_table a b x y m n s t e = cc

-- the sizes of segments say how words are cut into them
pub same_joined : (m n : List (List ℕ)) (x y : List ℕ) → sizes_of m ≡ sizes_of n → joined m ++ x ≡ joined n ++ y
    → (m ≡ n) × (x ≡ y)
same_joined [] [] x y l e = (refl, e)
same_joined (s ∷ m) (t ∷ n) x y l e =
    let h : s ++ (joined m ++ x) ≡ t ++ (joined n ++ y) = search (rules, append_assoc) in
    let k : length s ≡ length t = cc in
    let p : (s ≡ t) × (joined m ++ x ≡ joined n ++ y) = same_parts s t (joined m ++ x) (joined n ++ y) k h in
    search (rules, same_joined m n x y (cc) p.1)
same_joined m n x y l e = absurd (cc)

-- words begin with at most one frame
pub one_frame : (a b x y : List ℕ) (m n : List (List ℕ)) → Frames a m → Frames b n → a ++ x ≡ b ++ y
    → (a ≡ b) × (m ≡ n) × (x ≡ y)
one_frame a b x y m n f g e =
    let h : f.table ++ (joined m ++ x) ≡ g.table ++ (joined n ++ y) =
    search (rules, append_assoc) in
    let t : (f.table ≡ g.table) × (sizes_of m ≡ sizes_of n) × (joined m ++ x ≡ joined n ++ y) =
    same_table f.table g.table (joined m ++ x) (joined n ++ y) (sizes_of m) (sizes_of n) f.is_table g.is_table h in
    search (rules, same_joined)
