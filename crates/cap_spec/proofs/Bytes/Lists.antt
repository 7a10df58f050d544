-- What holds of each member of a list holds of each member of its parts. A list with one more member, reversed.
use Rattle.cap_spec.proofs.ProofNames.{List, [], None, Option, Some, ap, append-nil, drop, option_to_list, reverse, suc}
use Rattle.cap_spec.proofs.ProofNames.{take, zero, ℕ, ◌++◌, ◌∷◌, ◌≡◌, reverse-append, AllByRecursion}

-- of a front
pub all_take : {A : Type 0} (P : A → Type 0) (n : ℕ) (xs : List A) → AllByRecursion P xs → AllByRecursion P (take n xs)
all_take P (suc n) (x ∷ xs) a = (a.0, all_take P n xs a.1)
all_take P n xs a = tt

-- of what is after it
pub all_drop : {A : Type 0} (P : A → Type 0) (n : ℕ) (xs : List A) → AllByRecursion P xs → AllByRecursion P (drop n xs)
all_drop P zero xs a = a
all_drop P (suc n) [] a = tt
all_drop P (suc n) (x ∷ xs) a = all_drop P n xs a.1

-- of two lists joined, where it holds in both
pub all_append : {A : Type 0} (P : A → Type 0) (xs ys : List A) → AllByRecursion P xs → AllByRecursion P ys
    → AllByRecursion P (xs ++ ys)
all_append P [] ys a b = b
all_append P (x ∷ xs) ys a b = (a.0, all_append P xs ys a.1 b)

-- of the second of two lists joined
pub all_back : {A : Type 0} (P : A → Type 0) (xs ys : List A) → AllByRecursion P (xs ++ ys) → AllByRecursion P ys
all_back P [] ys a = a
all_back P (x ∷ xs) ys a = all_back P xs ys a.1

-- a list with one more member, where there is one
pub reverse-more : {A : Type 0} (xs : List A) (x : Option A)
    → reverse (xs ++ option_to_list x) ≡ option_to_list x ++ reverse xs
reverse-more xs None = ap reverse (append-nil xs)
reverse-more xs (Some x) = reverse-append xs (x ∷ [])
