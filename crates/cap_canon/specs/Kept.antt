-- What no turn of a walk changes (profile).
use Rattle.std.specs.Prelude.{List, ℕ}

-- Of an output: its capacity, the borrow that it writes through, the name of its own, and what is there already after the copy.
pub record Kept : Type 0 where
  pub capacity : ℕ
  pub borrow : ℕ
  pub name : ℕ
  pub after : List ℕ
