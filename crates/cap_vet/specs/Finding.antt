-- What was found at a spot (profile).
use Rattle.std.specs.Prelude.{List, None, Option, Some, length, ℕ, ◌+◌, ◌<◌, ◌≤◌}
use Rattle.cap_spec.specs.Arriving.{HasObject}
use Rattle.cap_spec.specs.Paths.{Spot as Where}
use Rattle.cap_spec.specs.SpecNames.{IsMessage, segment_of, StepsTo, list_words}
use Rattle.cap_spec.specs.declared.Kind.{Kind}
use Rattle.cap_spec.specs.declared.Kind.TheVariants.{Pointers, Scalars, Struct, Structs}
use Rattle.cap_spec.specs.declared.Step.{Step}
use Rattle.cap_ptr.specs.declared.shapes.Shape.{Shape}
use Rattle.cap_vet.specs.Spots.{SpotIn, spot_of}
use Rattle.cap_vet.specs.declared.nodes.found.Found.{Found}
use Rattle.cap_vet.specs.declared.nodes.spot.Spot.{Spot}
use Rattle.cap_ptr.specs.declared.shapes.Shape.TheVariants as shape

-- the kind of an object
abbrev pub kind_of_shape : Shape → Kind
kind_of_shape (shape.Struct d p) = Struct d p
kind_of_shape (shape.Scalars c n) = Scalars c n
kind_of_shape (shape.Pointers n) = Pointers n
kind_of_shape (shape.Structs size n d p) = Structs n d p

-- what an element of these sizes is
abbrev pub element_of : ℕ → ℕ → ℕ → ℕ → Found
element_of t b d p = record { kind = Struct d p; place = record { segment = t; start = b; words = d + p } }

-- the words of its own that are read
abbrev pub own_words : Kind → ℕ
own_words (Struct d p) = d + p
own_words (Scalars c n) = list_words c n
own_words _ = 0

-- its kind and its place are those of the object at the spot, and its words lie inside their
-- segment
pub record IsFound (m : List (List ℕ)) (a : Where) (f : Found) : Type 0 where
  pub object : HasObject m a f.kind f.place.segment f.place.start f.place.words
  pub exists : f.place.segment < length m
  pub inside : f.place.start + f.place.words ≤ length (segment_of m f.place.segment)
  pub own : own_words f.kind ≤ f.place.words

-- it is found in some message
abbrev pub IsAtSomePlace : Found → Type 0
IsAtSomePlace f = ∥ ((m : List (List ℕ)) × (a : Where) × IsMessage m × IsFound m a f) ∥₁

-- the answer says where a step leads from what was found
abbrev pub StepLeads : Found → Step → Option Spot → Type 0
StepLeads f step None =
    (m : List (List ℕ)) (a : Where) → IsFound m a f → (b : Where) → ¬ StepsTo m a step b
StepLeads f step (Some b) =
    (m : List (List ℕ)) (a : Where) → IsFound m a f → StepsTo m a step (spot_of b) × SpotIn m b
