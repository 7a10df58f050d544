-- What an output into memory says of itself (profile).
use Rattle.std.specs.Prelude.{Bool, List, Option, Some, vec_capacity, vec_len, ℕ, ◌-◌, ◌==◌, ◌^◌}
use Rattle.cap_words.specs.ByteIo.{Failures}
use Rattle.cap_words.specs.declared.vec_out.VecOut.{VecOut}

-- the bytes written so far
abbrev pub vec_written : VecOut → Option (List ℕ)
vec_written output = Some output.bytes.items

-- each allocation that failed
abbrev pub vec_failures : VecOut → Failures
vec_failures output = record { device = 0; memory = output.refused }

-- its count of failed allocations can't go up any more
abbrev pub vec_broken : VecOut → Bool
vec_broken output = output.refused == 2 ^ 64 - 1

-- how many bytes it takes before it has to grow
abbrev pub vec_spare : VecOut → ℕ
vec_spare output = vec_capacity output.bytes - vec_len output.bytes
