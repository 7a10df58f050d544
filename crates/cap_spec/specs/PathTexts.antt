-- The text of a path, and where a text that is none is bad (profile).
use Rattle.std.specs.List.{AllByRecursion}
use Rattle.std.specs.Prelude.{List, [], codes, decimal, flat_map, length, take, ℕ, ◌++◌, ◌<◌, ◌^◌, ◌∷◌, ◌≡◌, ◌≤◌}
use Rattle.cap_spec.specs.declared.Step.{Step}
use Rattle.cap_spec.specs.declared.Step.TheVariants.{Item, Ptr}

abbrev pub IsStep : Step → Type 0
IsStep (Ptr i) = i < 2 ^ 16
IsStep (Item i) = i < 2 ^ 32

abbrev pub step_text : Step → List ℕ
step_text (Ptr i) = codes "/p" ++ decimal i
step_text (Item i) = codes "/i" ++ decimal i

abbrev pub path_text : List Step → List ℕ
path_text [] = codes "/"
path_text (s ∷ steps) = step_text s ++ flat_map step_text steps

-- the beginning of the text of some path
pub record BeginsPath (text : List ℕ) : Type 0 where
  pub steps : List Step
  pub are : AllByRecursion IsStep steps
  pub rest : List ℕ
  pub whole : path_text steps ≡ text ++ rest

abbrev pub IsPath : List ℕ → Type 0
IsPath text = (steps : List Step) × AllByRecursion IsStep steps × (text ≡ path_text steps)

-- the text is of no path, and its longest beginning that begins one is so long
pub record IsBadAt (text : List ℕ) (at : ℕ) : Type 0 where
  pub none : IsPath text → ⊥
  pub within : at ≤ length text
  pub begins : BeginsPath (take at text)
  pub longest : (n : ℕ) → n ≤ length text → BeginsPath (take n text) → n ≤ at
