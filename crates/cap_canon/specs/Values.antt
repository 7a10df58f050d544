-- The bits of a list of values (profile).
use Rattle.std.specs.Prelude.{min, ℕ, ◌*◌, ◌-◌, ◌/◌}
use Rattle.cap_spec.specs.Pointers.{element_bits}

-- how many bits of word k the values of a list take
abbrev pub used_bits : ℕ → ℕ → ℕ → ℕ
used_bits c n k = min (64 / element_bits c) (n - k * (64 / element_bits c)) * element_bits c
