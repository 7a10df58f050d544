-- The steps of a path are read back from its text.
use Rattle.cap_spec.proofs.Bytes.Lists.{all_append}
use Rattle.cap_spec.proofs.ProofNames.{List, [], ap, arith, codes, decimal, flat_map, get_or, inl, inr, length, refl}
use Rattle.cap_spec.proofs.ProofNames.{suc, take, zero, ℕ, ◌%◌, ◌++◌, ◌+◌, ◌<◌, ◌^◌, ◌∷◌, ◌≡◌, ◌≤◌, leb_tells}
use Rattle.cap_spec.proofs.ProofNames.{decimal_by_steps, decimal_injective, AllByRecursion, BeginsPath, IsBadAt, IsPath}
use Rattle.cap_spec.proofs.ProofNames.{IsStep, path_text, step_text, Step, Item, Ptr, rules, common_steps}

abbrev pub IsDigit : ℕ → Type 0
IsDigit b = (48 ≤ b) × (b < 58)

-- the digits of a number are digits
pub all_digits : (n : ℕ) → n < 2 ^ 64 → AllByRecursion IsDigit (decimal n)
all_digits n h =
    decimal_by_steps (λ _ ds. AllByRecursion IsDigit ds) (λ k less. ((omega arith, omega arith), tt))
    (λ k ds more before. all_append IsDigit ds ((48 + k % 10) ∷ []) before ((omega arith, omega arith), tt)) n h

-- a number ends where this text begins
abbrev pub EndsNumber : List ℕ → Type 0
EndsNumber [] = Unit {0}
EndsNumber (b ∷ bs) = b ≡ 47

-- digits and what follows them, in one way
pub one_number : (xs ys r s : List ℕ) → AllByRecursion IsDigit xs → AllByRecursion IsDigit ys → EndsNumber r → EndsNumber s
    → xs ++ r ≡ ys ++ s → (xs ≡ ys) × (r ≡ s)
one_number [] [] r s a b p q e = (refl, e)
one_number [] (y ∷ ys) (c ∷ r) s a b p q e = let f : c ≡ y = cc in absurd (omega (arith, f, p, b.0.0))
one_number (x ∷ xs) [] r (c ∷ s) a b p q e = let f : x ≡ c = cc in absurd (omega (arith, f, q, a.0.0))
one_number (x ∷ xs) (y ∷ ys) r s a b p q e =
    let f : x ≡ y = cc in
    let g : xs ++ r ≡ ys ++ s = cc in
    let rest = one_number xs ys r s a.1 b.1 p q g in
    let same = rest.0 in
    (cc, rest.1)
one_number x0 x1 r s a b p q e = search rules

pub ends_number : (steps : List Step) → EndsNumber (flat_map step_text steps)
ends_number [] = tt
ends_number x0 = search rules

-- two texts of steps, one after the other
one_numbered : (i j : ℕ) (xs ys : List Step) → i < 2 ^ 64 → j < 2 ^ 64
    → decimal i ++ flat_map step_text xs ≡ decimal j ++ flat_map step_text ys
    → (i ≡ j) × (flat_map step_text xs ≡ flat_map step_text ys)
one_numbered i j xs ys hi hj e = search (rules, one_number, all_digits, ends_number, decimal_injective)

-- steps are read back from their texts
pub one_steps : (xs ys : List Step) → AllByRecursion IsStep xs → AllByRecursion IsStep ys
    → flat_map step_text xs ≡ flat_map step_text ys → xs ≡ ys
one_steps [] [] a b e = refl
one_steps (Ptr i ∷ xs) (Item j ∷ ys) a b e = let f : 112 ≡ 105 = ap (λ l. get_or l 1 0) e in absurd (omega (arith, f))
one_steps (Item i ∷ xs) (Ptr j ∷ ys) a b e = let f : 105 ≡ 112 = ap (λ l. get_or l 1 0) e in absurd (omega (arith, f))
one_steps (Ptr i ∷ xs) (Ptr j ∷ ys) a b e =
    let both = one_numbered i j xs ys (omega (arith, a.0)) (omega (arith, b.0)) (cc e) in
    let first = both.0 in
    let rest = one_steps xs ys a.1 b.1 both.1 in cc
one_steps (Item i ∷ xs) (Item j ∷ ys) a b e =
    let both = one_numbered i j xs ys (omega (arith, a.0)) (omega (arith, b.0)) (cc e) in
    let first = both.0 in
    let rest = one_steps xs ys a.1 b.1 both.1 in cc
one_steps x0 x1 a b e = search rules

-- a path is read back from its text
pub one_path_text : (xs ys : List Step) → AllByRecursion IsStep xs → AllByRecursion IsStep ys
    → path_text xs ≡ path_text ys → xs ≡ ys
one_path_text xs ys a b e = search (rules, one_steps)

-- a text that is of no path is bad at one place
pub one_bad_place : (text : List ℕ) (at at' : ℕ) → IsBadAt text at → IsBadAt text at' → at ≡ at'
one_bad_place text at at' p q = search rules

-- where it is bad at no place, none of its beginnings that are so long begins a path
none_from : (text : List ℕ) → (IsPath text → ⊥) → ((at : ℕ) → IsBadAt text at → ⊥) → (k n : ℕ) → n ≤ length text
    → length text ≤ n + k → BeginsPath (take n text) → ⊥
none_from text none no_node zero n few long p = grind (arith, common_steps)
none_from text none no_node (suc k) n few long p =
    let longest : (n' : ℕ) → n' ≤ length text → BeginsPath (take n' text)
    → n' ≤ n = λ n' less q. elim (leb_tells n' n) [
      | inl le ↦ le.1
      | inr over ↦ let more = over.1 in absurd (none_from text none no_node k n' less (omega (arith, more, long)) q)
    ] in
    no_node n (record { none = none; within = few; begins = p; longest = longest })

-- so it is bad at some place
pub bad_at_some_place : (text : List ℕ) → (IsPath text → ⊥) → ((at : ℕ) → IsBadAt text at → ⊥) → ⊥
bad_at_some_place text none no_node =
    none_from text none no_node (length text) 0 (omega arith) (omega arith)
    (record { steps = []; are = tt; rest = codes "/"; whole = refl })

-- a text of a path is bad at no place
pub path_not_bad : (text : List ℕ) (at : ℕ) → IsPath text → IsBadAt text at → ⊥
path_not_bad text at p q = q.none p
