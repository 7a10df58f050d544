-- Elements of a list, and lists without an element twice (profile).
use Rattle.std.specs.Prelude.{List, [], ⊤, ◌∷◌, ◌≡◌, ◌⊎◌}

-- x is an element of the list
abbrev pub IsOneOf : {X : Type 0} → X → List X → Type 0
IsOneOf x [] = ⊥
IsOneOf x (y ∷ ys) = (x ≡ y) ⊎ IsOneOf x ys

-- no element is equal to one after it
abbrev pub AreDistinct : {X : Type 0} → List X → Type 0
AreDistinct [] = ⊤
AreDistinct (x ∷ xs) = ¬ IsOneOf x xs × AreDistinct xs
