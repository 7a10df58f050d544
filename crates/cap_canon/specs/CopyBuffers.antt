-- The result for a canonical copy that is written into a buffer as bytes, and what the buffer holds
-- then (standard: Canonicalization, 64-bit Words).
use Rattle.std.specs.Prelude.{Err, List, Ok, Result, drop, length, ℕ, ◌++◌, ◌<◌, ◌≡◌, ◌≤◌}
use Rattle.cap_spec.specs.SpecNames.{HasCopy, IsFirstCap, plain_text}
use Rattle.cap_canon.specs.declared.fault.BufferFault.{BufferFault}
use Rattle.cap_canon.specs.declared.fault.BufferFault.TheVariants.{HasCapability, BufferTooSmall}

-- Of a message, for a buffer that held these bytes. The order of the results is the profile's.
pub data ReportsBuffer (m : List (List ℕ)) (old : List ℕ) (reported : Result ℕ BufferFault) (new : List ℕ) : Type 0 where
  -- it has no copy: a capability is reached, this one first
  has_capability : (s w : ℕ) → IsFirstCap m s w → reported ≡ Err (HasCapability s w) → new ≡ old → ReportsBuffer m old reported new
  -- it has one, with more bytes than the buffer
  too_small : (words : List ℕ) → HasCopy m words → length old < length (plain_text words) → reported ≡ Err (BufferTooSmall (length (plain_text words)))
      → new ≡ old → ReportsBuffer m old reported new
  -- the copy is at the start of the buffer, and the bytes after it are as they were
  written : (words : List ℕ) → HasCopy m words → length (plain_text words) ≤ length old → reported ≡ Ok (length (plain_text words))
      → new ≡ plain_text words ++ drop (length (plain_text words)) old → ReportsBuffer m old reported new
