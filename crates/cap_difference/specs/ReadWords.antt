-- The words of an object that are known to be words once they are read (profile).
use Rattle.std.specs.Prelude.{List, ℕ, ⊤, ◌+◌, ◌<◌}
use Rattle.cap_spec.specs.Messages.{HasWord}
use Rattle.cap_spec.specs.Words.{IsWord}
use Rattle.cap_ptr.specs.declared.shapes.Shape.{Shape}
use Rattle.cap_ptr.specs.declared.shapes.Shape.TheVariants.{Pointers, Scalars, Struct, Structs}

-- n words from t:b on are there, each below 2^64
abbrev pub HasWords : List (List ℕ) → ℕ → ℕ → ℕ → Type 0
HasWords m t b n = (k : ℕ) → k < n → (x : ℕ) × HasWord m t (b + k) x × IsWord x

-- those of an object at t:b, in n words, that the code needn't look at: the values of a list, and the tag of a list of structs
abbrev pub AreRead : List (List ℕ) → ℕ → ℕ → ℕ → Shape → Type 0
AreRead m t b n (Struct d p) = ⊤
AreRead m t b n (Scalars c l) = HasWords m t b n
AreRead m t b n (Pointers l) = ⊤
AreRead m t b n (Structs size l d p) = (x : ℕ) × HasWord m t b x × IsWord x
