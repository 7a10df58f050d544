-- How many levels an object takes below its own (profile).
use Rattle.std.specs.Prelude.{ℕ}
use Rattle.cap_spec.specs.Denoting.{element_levels}
use Rattle.cap_ptr.specs.declared.shapes.Shape.{Shape}
use Rattle.cap_ptr.specs.declared.shapes.Shape.TheVariants.{Pointers, Scalars, Struct, Structs}

-- those of the elements of a list of structs
abbrev pub levels_of : Shape → ℕ
levels_of (Struct d p) = 0
levels_of (Scalars c n) = 0
levels_of (Pointers n) = 0
levels_of (Structs words n d p) = element_levels n
