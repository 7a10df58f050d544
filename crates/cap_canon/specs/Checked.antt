-- A message that is compared with its canonical copy, part by part (profile).
use Rattle.std.specs.Prelude.{List, length, ℕ, ◌↔◌, ◌≡◌, ◌≤◌}
use Rattle.cap_spec.specs.SpecNames.{layout, segment_of, Tree}
use Rattle.cap_canon.specs.Laying.{Due, Laid}

-- The words of segment 0 are the layout exactly if they lay what is due from end on.
pub record IsChecked (m : List (List ℕ)) (whole : Tree) (end : ℕ) (due : List Due) : Type 0 where
  pub inside : end ≤ length (segment_of m 0)
  pub laid : Laid (segment_of m 0) end due ↔ (segment_of m 0 ≡ layout whole)
