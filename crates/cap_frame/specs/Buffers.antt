-- Empty vectors with capacity for the segments of a message (profile).
use Rattle.std.specs.Prelude.{List, [], ℕ, ⊤, ◌∷◌, ◌≡◌, ◌≤◌}

-- Vectors without words, each with capacity for its size. The two functions give a vector's words
-- and its capacity in words.
abbrev pub AreBuffers : {V : Type 0} → (V → List ℕ) → (V → ℕ) → List V → List ℕ → Type 0
AreBuffers words buffer [] [] = ⊤
AreBuffers words buffer [] (n ∷ ns) = ⊥
AreBuffers words buffer (v ∷ vs) [] = ⊥
AreBuffers words buffer (v ∷ vs) (n ∷ ns) = ((words v ≡ []) × (n ≤ buffer v)) × AreBuffers words buffer vs ns
