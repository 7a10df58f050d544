-- The result for a canonical copy that is written over a buffer as bytes, which grows if it has to,
-- and what the buffer holds then (standard: Canonicalization, 64-bit Words).
use Rattle.std.specs.Prelude.{Err, List, Ok, Result, [], length, take, ℕ, ◌<◌, ◌≡◌, ◌≤◌}
use Rattle.cap_spec.specs.SpecNames.{HasCopy, IsFirstCap, plain_text}
use Rattle.cap_spec.specs.declared.CanonFault.{CanonFault}
use Rattle.cap_spec.specs.declared.CanonFault.TheVariants.{HasCapability, Memory}

-- Of a message, for a buffer that held these bytes. The order of the results is the profile's.
pub data ReportsOver (m : List (List ℕ)) (old : List ℕ) (reported : Result ℕ CanonFault) (new : List ℕ) : Type 0 where
  -- it has no copy: a capability is reached, this one first
  has_capability : (s w : ℕ) → IsFirstCap m s w → reported ≡ Err (HasCapability s w) → new ≡ old → ReportsOver m old reported new
  -- it has one, with more bytes than the buffer, and the buffer was freed
  no_memory : (words : List ℕ) → HasCopy m words → length old < length (plain_text words) → reported ≡ Err Memory → new ≡ [] → ReportsOver m old reported new
  -- the copy is at the start of the buffer, which has as many bytes as before
  over : (words : List ℕ) → HasCopy m words → length (plain_text words) ≤ length old → reported ≡ Ok (length (plain_text words))
      → take (length (plain_text words)) new ≡ plain_text words → length new ≡ length old → ReportsOver m old reported new
  -- the copy has more bytes than the buffer had, and is all that it has now
  grown : (words : List ℕ) → HasCopy m words → length old < length (plain_text words) → reported ≡ Ok (length (plain_text words))
      → take (length (plain_text words)) new ≡ plain_text words → length new ≡ length (plain_text words) → ReportsOver m old reported new

-- the same before anything is written: whether the buffer is long enough for the copy
pub data MakesEnough (m : List (List ℕ)) (old : List ℕ) (reported : Result (Unit {0}) CanonFault) (new : List ℕ) : Type 0 where
  no_copy : (s w : ℕ) → IsFirstCap m s w → reported ≡ Err (HasCapability s w) → new ≡ old → MakesEnough m old reported new
  refused : (words : List ℕ) → HasCopy m words → length old < length (plain_text words) → reported ≡ Err Memory → new ≡ [] → MakesEnough m old reported new
  enough : (words : List ℕ) → HasCopy m words → length (plain_text words) ≤ length old → reported ≡ Ok tt → new ≡ old → MakesEnough m old reported new
  made : (words : List ℕ) → HasCopy m words → length old < length (plain_text words) → reported ≡ Ok tt
      → length new ≡ length (plain_text words) → MakesEnough m old reported new
