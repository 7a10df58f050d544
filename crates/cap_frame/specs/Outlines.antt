-- What is kept of a message whose other words are passed over (profile).
use Rattle.std.specs.Prelude.{List, Option, ℕ, ◌≡◌}
use Rattle.cap_spec.specs.Frames.{sizes_of}
use Rattle.cap_spec.specs.Messages.{root_of}
use Rattle.cap_frame.specs.declared.outline.Outline.{Outline}

-- what contracts see of an outline: the size of each segment, and the root word
abbrev pub sizes_in : Outline → List ℕ
sizes_in outline = outline.sizes.items

abbrev pub root_in : Outline → Option ℕ
root_in outline = outline.root

-- It is the outline of this message.
pub record Outlines (outline : Outline) (m : List (List ℕ)) : Type 0 where
  pub sizes : sizes_in outline ≡ sizes_of m
  pub root : root_in outline ≡ root_of m
