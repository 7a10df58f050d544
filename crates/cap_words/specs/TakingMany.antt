-- What taking many words at once does to a source, by the values of its members before and after (profile).
use Rattle.std.specs.Io.KnownBytes.{Consumes}
use Rattle.std.specs.Prelude.{Bool, IfSome, List, OnSome, Option, [], drop, length, min, ℕ, ◌+◌, ◌-◌, ◌<◌, ◌^◌, ◌∷◌}
use Rattle.std.specs.Prelude.{◌≡◌}

-- These words were taken, and no more. How the input ends and the places of the other words stay as they were.
pub record TakesAll (words rest : Option (List ℕ)) (cut still_cut : Bool) (place now : ℕ) (places left : List ℕ) (own : List ℕ) : Type 0 where
  pub consumed : Consumes words rest own
  pub goes_on : OnSome words ((still_cut ≡ cut) × (now ∷ left ≡ drop (length own) (place ∷ places)))

-- The same by the members of a source, and its states before and after the call.
abbrev pub TakesWords : {S : Type 0} → (S → Option (List ℕ)) → (S → Bool) → (S → ℕ) → (S → List ℕ)
    → S → S → List ℕ → Type 0
TakesWords words cut place places old new own =
    TakesAll (words old) (words new) (cut old) (cut new) (place old) (place new) (places old) (places new) own

-- These bytes of the input were read, and the place counts them.
pub record ReadsBytes (unread rest : Option (List ℕ)) (place now : ℕ) : Type 0 where
  pub bytes : List ℕ
  pub lost : Consumes unread rest bytes
  pub counted : min now (2 ^ 64 - 1) ≡ min (place + length bytes) (2 ^ 64 - 1)

-- There are fewer than `count` words, and the input ends after them, inside a word or not, at this
-- place.
abbrev pub EndsWithin : ℕ → Option (List ℕ) → Bool → Bool → List ℕ → ℕ → Type 0
EndsWithin count words cut inside places at = IfSome words (λ ws. (length ws < count) × (cut ≡ inside) × (drop (length ws) places ≡ at ∷ []))
