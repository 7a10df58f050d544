-- What is at a spot of a message: its kind, and its n words from t:b on, the tag of a list of
-- structs among them (standard: Objects; paths are the profile's).
use Rattle.std.specs.Prelude.{List, ℕ, ◌+◌, ◌≡◌}
use Rattle.cap_spec.specs.Denoting.{FindsKind, values_of, words_from}
use Rattle.cap_spec.specs.Following.{Leads, to_cap, to_null}
use Rattle.cap_spec.specs.Paths.{ReachesSpot, Spot, element, word}
use Rattle.cap_spec.specs.Pointers.{extent}
use Rattle.cap_spec.specs.Showing.{Own, own_cap, own_null, own_pointers, own_scalars, own_struct, own_structs}
use Rattle.cap_spec.specs.declared.Kind.{Kind}
use Rattle.cap_spec.specs.declared.Kind.TheVariants.{Cap, Null, Pointers, Scalars, Struct, Structs}
use Rattle.cap_spec.specs.declared.Step.{Step}

-- a struct that is an element has the words that its spot gives
pub record IsElementAt (t' b' ds ps d p t b n : ℕ) : Type 0 where
  pub segment : t ≡ t'
  pub start : b ≡ b'
  pub data_words : d ≡ ds
  pub pointers : p ≡ ps
  pub words : n ≡ ds + ps

-- what of this kind is at a spot; null and a capability have no words
abbrev pub HasObject : List (List ℕ) → Spot → Kind → ℕ → ℕ → ℕ → Type 0
HasObject m (word s w) Null t b n = (k : ℕ) × Leads m s w k to_null
HasObject m (word s w) (Cap i) t b n = (k : ℕ) × Leads m s w k (to_cap i)
HasObject m (word s w) kind t b n = (k q tag : ℕ) × FindsKind m s w kind k t b q tag × (n ≡ extent q)
HasObject m (element t' b' ds ps) (Struct d p) t b n = IsElementAt t' b' ds ps d p t b n
HasObject m (element t' b' ds ps) _ t b n = ⊥

-- the path from the root arrives at this
abbrev pub PathFinds : List (List ℕ) → List Step → Kind → ℕ → ℕ → ℕ → Type 0
PathFinds m path kind t b n = (level : ℕ) × (spot : Spot) × ReachesSpot m path level spot × HasObject m spot kind t b n

-- what an object of this kind at t:b is by itself
abbrev pub own_at : List (List ℕ) → Kind → ℕ → ℕ → Own
own_at m Null t b = own_null
own_at m (Cap i) t b = own_cap i
own_at m (Struct d p) t b = own_struct (words_from m t b d) p
own_at m (Scalars c n) t b = own_scalars c (values_of m t b c n)
own_at m (Pointers n) t b = own_pointers n
own_at m (Structs n d p) t b = own_structs n d p
