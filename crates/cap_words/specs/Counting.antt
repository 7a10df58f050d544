-- What a read does to an input and to the count of its bytes (profile).
use Rattle.std.specs.Io.KnownBytes.{Consumes, IsAtEnd}
use Rattle.std.specs.Prelude.{List, Option, length, ℕ, ◌+◌, ◌≡◌}
use Rattle.cap_spec.specs.Plain.{capped}
use Rattle.cap_words.specs.declared.transfer.Counted.{Counted}

-- what is known of the bytes to come lost these, and the count moved on by as many
pub record Took (before after : Option (List ℕ)) (from to : ℕ) (bytes : List ℕ) : Type 0 where
  pub lost : Consumes before after bytes
  pub place : to ≡ capped (from + length bytes)

-- the same, by an input and its count before and after
abbrev pub Reads : {I : Type 0} → (I → Option (List ℕ)) → Counted I → Counted I → List ℕ → Type 0
Reads to_come old new bytes = Took (to_come old.input) (to_come new.input) old.read new.read bytes

-- all bytes that were left, of which this holds, where they are known
abbrev pub ReadsAll : {I : Type 0} → (I → Option (List ℕ)) → Counted I → Counted I → (List ℕ → Type 0) → Type 0
ReadsAll to_come old new P = (bytes : List ℕ) × Reads to_come old new bytes × IsAtEnd (to_come new.input) × P bytes
