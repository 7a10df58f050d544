-- What is read of a message at a path (profile).
use Rattle.std.specs.Prelude.{List, MatchOption, Option, length, option_map, ℕ, ◌+◌, ◌<◌, ◌≡◌, ◌≤◌}
use Rattle.cap_spec.specs.Paths.{IsPlace}
use Rattle.cap_spec.specs.SpecNames.{Denotes, segment_of, Own, Tree, node_at}
use Rattle.cap_spec.specs.Showing.{own_of}
use Rattle.cap_spec.specs.declared.Step.{Step}
use Rattle.cap_walk.specs.Reports.{IsReport}
use Rattle.cap_ptr.specs.declared.place.Place.{Place}
use Rattle.cap_walk.specs.declared.report.Report.{Report}

-- the place of a path, inside its segment
pub record IsPlaceInside (m : List (List ℕ)) (path : List Step) (p : Place) : Type 0 where
  pub is_place : IsPlace m path p.segment p.start p.words
  pub exists : p.segment < length m
  pub inside : p.start + p.words ≤ length (segment_of m p.segment)

-- The root denotes exactly one tree, within the limits and of the reported numbers.
-- What was read is the tree's node at the path, in the place of the path, or nothing where there is none.
pub record IsRead (m : List (List ℕ)) (words depth : ℕ) (path : List Step) (r : Report) (own : Option Own) (place : Option Place) : Type 0 where
  pub tree : Tree
  pub report : IsReport m words depth r tree
  pub only : (t : Tree) (c d : ℕ) → Denotes m 0 0 t c d → (t ≡ tree) × (c ≡ r.charge) × (d ≡ r.depth)
  pub node : own ≡ option_map own_of (node_at tree path)
  pub placed : MatchOption place ((t b n : ℕ) → ¬ IsPlace m path t b n) (IsPlaceInside m path)
