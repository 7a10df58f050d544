-- What is given for a path in a message that needn't be vetted, by where it leads (profile).
use Rattle.std.specs.Prelude.{IfErr, IfNone, IfOk, IfSome, List, Ok, Option, Result, Some, [], length, ℕ, ◌*◌, ◌++◌}
use Rattle.std.specs.Prelude.{◌+◌, ◌-◌, ◌<◌, ◌∷◌, ◌≡◌}
use Rattle.cap_spec.specs.Arriving.{PathFinds}
use Rattle.cap_spec.specs.declared.Kind.{Kind}
use Rattle.cap_spec.specs.declared.Kind.TheVariants.{Structs}
use Rattle.cap_spec.specs.declared.Step.{Step}
use Rattle.cap_spec.specs.declared.Step.TheVariants.{Item, Ptr}
use Rattle.cap_spec.specs.declared.StrictRefusal.{StrictRefusal}
use Rattle.cap_walk.specs.Demands.{words_under}
use Rattle.cap_vet.specs.NearFinding.{IsNearWithin}
use Rattle.cap_vet.specs.PathDemands.{IsPathFault, MeetsOnPath}
use Rattle.cap_vet.specs.PathStrictness.{HasNoFaultBy}
use Rattle.cap_vet.specs.Views.{kept_place, view_kind}
use Rattle.cap_vet.specs.PathEnds.{IsPathEnd}
use Rattle.cap_walk.specs.declared.demands.Demands.{Demands}
use Rattle.cap_vet.specs.declared.nodes.charged.Arrival.{Arrival}
use Rattle.cap_vet.specs.declared.nodes.path_start.PathStart.{PathStart}
use Rattle.cap_vet.specs.declared.nodes.struct_elements.StructElements.{StructElements}
use Rattle.cap_vet.specs.declared.nodes.view.View.{View}
use Rattle.cap_vet.specs.declared.nodes.path_end.PathEnd.TheVariants.{To}
use Rattle.cap_frame.specs.declared.segments.Segments as segments

-- A path gives what is at it, if its pointers meet the demands, and else why they don't (profile).
pub record IsGiven {M : Type 0} {g : segments.Ghosts M} (demands : Demands) (m : List (List ℕ)) (words depth : ℕ)
    (path : List Step) (result : Result (Option (View M g)) StrictRefusal) : Type 0 where
  pub meets : IfOk result (λ o. MeetsOnPath demands m words depth path)
  pub none : IfOk result (λ o. IfNone o ((k : Kind) (t b n : ℕ) → ¬ PathFinds m path k t b n))
  pub some : IfOk result (λ o. IfSome o (λ v.
      PathFinds m path (view_kind v) (kept_place v).segment (kept_place v).start (kept_place v).words))
  pub err : IfErr result (IsPathFault demands m words depth path)

-- the message of a start
abbrev pub start_message : {M : Type 0} {g : segments.Ghosts M} → PathStart M g → M
start_message start = start.message.now

-- the message of some elements
abbrev pub elements_message : {M : Type 0} {g : segments.Ghosts M} → StructElements M g → M
elements_message e = e.message.now

-- the segment of the elements
abbrev pub elements_segment : {M : Type 0} {g : segments.Ghosts M} → StructElements M g → ℕ
elements_segment e = e.segment

-- how many elements there are
abbrev pub elements_count : {M : Type 0} {g : segments.Ghosts M} → StructElements M g → ℕ
elements_count e = e.count

-- These are the first steps of some paths in a message, under these demands and within these limits.
pub record IsStart {M : Type 0} {g : segments.Ghosts M} (demands : Demands) (m : List (List ℕ)) (words depth : ℕ) (first : List Step)
    (start : PathStart M g) : Type 0 where
  pub under : start.demands ≡ demands
  pub limit : start.words ≡ words_under demands m words
  pub deepest : start.depth ≡ depth
  pub end : IsPathEnd m start.words start.depth first start.end

-- After the first steps, a path that goes on with this step and these others gives this.
abbrev pub GivesAfter : {M : Type 0} {g : segments.Ghosts M} → List (List ℕ) → PathStart M g → Step → List Step
    → Result (Option (View M g)) StrictRefusal → Type 0
GivesAfter m start step rest result =
    (demands : Demands) (words depth : ℕ) (first : List Step) → IsStart demands m words depth first start
    → IsGiven demands m words depth (first ++ step ∷ rest) result

-- The first steps lead to the list of structs of these elements, without a fault.
pub record LeadsToElements {M : Type 0} {g : segments.Ghosts M} (m : List (List ℕ)) (start : PathStart M g) (e : StructElements M g)
    : Type 0 where
  pub at : Arrival
  pub end : start.end ≡ To at
  pub strict : HasNoFaultBy start.demands (length m) at.lax
  pub kind : at.found.kind ≡ Structs e.count e.data_words e.pointers
  pub segment : e.segment ≡ at.found.place.segment
  pub first : e.first ≡ at.found.place.start + 1
  pub left : e.left ≡ start.words - at.consumed
  pub level : e.level ≡ at.level + 2
  pub depth : e.depth ≡ start.depth

-- The first steps lead to a list of structs, without a fault.
pub record LeadsToStructs {M : Type 0} {g : segments.Ghosts M} (m : List (List ℕ)) (start : PathStart M g) : Type 0 where
  pub at : Arrival
  pub count : ℕ
  pub data_words : ℕ
  pub pointers : ℕ
  pub end : start.end ≡ To at
  pub strict : HasNoFaultBy start.demands (length m) at.lax
  pub kind : at.found.kind ≡ Structs count data_words pointers

-- Element i has a pointer j, whose word is null, or alone describes an object within the limits.
pub record HasPointerNear {M : Type 0} {g : segments.Ghosts M} (m : List (List ℕ)) (e : StructElements M g) (i j : ℕ) : Type 0 where
  pub element : i < e.count
  pub pointer : j < e.pointers
  pub near : IsNearWithin m e.left e.depth e.segment (e.first + i * (e.data_words + e.pointers) + e.data_words + j) e.level

-- Element i of the list, and what pointer j of it leads to, is what paths from there give.
abbrev pub GivesElement : {M : Type 0} {g : segments.Ghosts M} → List (List ℕ) → StructElements M g → ℕ → View M g → Type 0
GivesElement {M} {g} m e i v = (start : PathStart M g) → LeadsToElements m start e → GivesAfter m start (Item i) [] (Ok (Some v))

abbrev pub GivesPointer : {M : Type 0} {g : segments.Ghosts M} → List (List ℕ) → StructElements M g → ℕ → ℕ → View M g → Type 0
GivesPointer {M} {g} m e i j v = (start : PathStart M g) → LeadsToElements m start e → GivesAfter m start (Item i) (Ptr j ∷ []) (Ok (Some v))
