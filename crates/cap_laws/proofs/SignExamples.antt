-- How closely signs bind. Each of these has its meaning, and its proof, only if they bind as it is read here.
use Rattle.std.proofs.Common.{inl, inr, refl}
use Rattle.std.specs.Prelude.{[], pos, true, ℕ, ◌%◌, ◌*◌, ◌++◌, ◌+ℤ◌, ◌+◌, ◌-◌, ◌/◌, ◌<◌, ◌==◌, ◌^◌, ◌↔◌}
use Rattle.std.specs.Prelude.{◌∷◌, ◌≡◌, ◌≢◌, ◌≤◌, ◌⊎◌}

-- a power before a product, a quotient or a rest
power : 2 * 3 ^ 2 ≡ 18
power = refl

-- these before an element of a list
product : 2 * 3 ∷ 7 / 2 ∷ 7 % 4 ∷ [] ≡ 6 ∷ 3 ∷ 3 ∷ []
product = refl

-- an element before lists that are joined
element : (a b : ℕ) → [] ++ a ∷ [] ++ b ∷ [] ≡ a ∷ b ∷ []
element a b = refl

-- a product before a sum or a difference, and these from the left
sum : 10 - 2 * 3 - 1 + 1 ≡ 4
sum = refl

-- a sum before a test, and a test before an equation
test : 1 + 2 == 4 - 1 ≡ true
test = refl

-- a sum before an order
order : (a b : ℕ) → a + 1 ≤ b + 1 → a + 1 ≤ b + 1
order a b h = h

-- whole numbers that are added before an equation
whole : (a b : ℕ) → pos (a + b) ≡ pos a +ℤ pos b
whole a b = refl

-- an equation and an order before "not", and this before "and"
negated : (a b : ℕ) → (a ≡ b → ⊥) → (b < a → ⊥) → ¬ a ≡ b × ¬ b < a × a ≢ b
negated a b h k = (h, k, h)

-- "and" before "or", this before "exactly if", and all before "if"
joined : (A B C : Type 0) → A × B ⊎ C ↔ A × B ⊎ C
joined A B C = ((λ h. h), (λ h. h))

chosen : (A B C : Type 0) → A × B ⊎ C → C ⊎ A × B
chosen A B C (inl p) = inr p
chosen A B C (inr c) = inl c
