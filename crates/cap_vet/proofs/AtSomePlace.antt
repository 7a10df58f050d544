-- What is known of a step of a path where some path is known to come to it.
use Rattle.cap_spec.specs.declared.Kind.TheVariants.{Pointers, Structs}
use Rattle.cap_spec.proofs.Frames.Messages.{short_segment}
use Rattle.cap_spec.proofs.ProofNames.{List, Some, arith, length, subst, ℕ, ◌*◌, ◌+◌, ◌<◌, ◌^◌, ◌≡◌, ◌≤◌, ∥∥₁_elim}
use Rattle.cap_spec.proofs.ProofNames.{∥∥₁_map, props, IsMessage, segment_of, Spot, rules}
use Rattle.cap_vet.specs.Finding.{IsAtSomePlace, StepLeads}
use Rattle.cap_vet.specs.VetNames.{Step, IsFound, own_words, Arrival, Found, PathEnd, To}
use Rattle.cap_vet.specs.PathEnds.{HasFound, SomeArrives}
use Rattle.cap_vet.specs.PathEnds.{IsSomePathEnd}
use Rattle.cap_vet.specs.declared.nodes.spot.Spot.TheVariants.{Word}
use Rattle.cap_vet.proofs.Charging.{arrives_low}
use Rattle.cap_vet.proofs.Stepping.{element_inside, elements_inside, entry_inside}

-- A found object's words are numbered in 32 bits, and those of its parts are among them.
pub record Fits (f : Found) : Type 0 where
  pub last : f.place.start + f.place.words < 2 ^ 32
  pub own : own_words f.kind ≤ f.place.words

fits_in : (m : List (List ℕ)) (a : Spot) (f : Found) → IsMessage m → IsFound m a f → Fits f
fits_in m a f message h = search (rules, short_segment)

pub at_some_place_last : (f : Found) → IsAtSomePlace f → f.place.start + f.place.words < 2 ^ 32
at_some_place_last f h =
    ∥∥₁_elim h (hlevel props) (λ x. (fits_in x.0 x.1 f x.2 x.3).last)

pub at_some_place_own : (f : Found) → IsAtSomePlace f → own_words f.kind ≤ f.place.words
at_some_place_own f h =
    ∥∥₁_elim h (hlevel props) (λ x. x.3.own)

-- the words of a list's elements
pub at_some_place_entry : (f : Found) (n i : ℕ) → IsAtSomePlace f → f.kind ≡ Pointers n → i < n → f.place.start + i + 1 < 2 ^ 32
at_some_place_entry f n i h e lt =
    ∥∥₁_elim h (hlevel props) (search (rules, short_segment, entry_inside))

pub at_some_place_element : (f : Found) (n d p i : ℕ) → IsAtSomePlace f → f.kind ≡ Structs n d p → i < n
    → f.place.start + 1 + i * (d + p) + d + p < 2 ^ 32
at_some_place_element f n d p i h e lt =
    ∥∥₁_elim h (hlevel props) (λ x.
    omega (arith, short_segment x.0 f.place.segment x.2 x.3.exists, (element_inside x.0 x.1 d p x.3 e lt)))

-- Where some path arrives.
module _ (m : List (List ℕ)) (words depth : ℕ) (at : Arrival) (h : SomeArrives m words depth at) where
  pub arrival_at_some_place : IsMessage m → IsAtSomePlace at.found
  arrival_at_some_place message = ∥∥₁_map h (λ x. (m, x.1, message, x.2.found))

  pub arrival_within : at.consumed ≤ words
  arrival_within = let one : IsProp (at.consumed ≤ words) = hlevel props in ∥∥₁_elim h one (λ x. x.2.within)

  pub arrival_levels : at.level ≤ depth + 1
  arrival_levels =
      ∥∥₁_elim h (hlevel props) (λ x. (arrives_low m words depth x.0 x.1 at x.2).0)

  pub arrival_few : at.pointers ≤ depth + 1
  arrival_few =
      ∥∥₁_elim h (hlevel props) (λ x. (arrives_low m words depth x.0 x.1 at x.2).1)

  pub arrival_exists : at.found.place.segment < length m
  arrival_exists =
      let one : IsProp (at.found.place.segment < length m) = hlevel props in ∥∥₁_elim h one (λ x. x.2.found.exists)

  -- the step's word exists
  pub step_exists : (step : Step) (s w : ℕ) → StepLeads at.found step (Some (Word s w)) → s < length m
  step_exists step s w is =
      let one : IsProp (s < length m) = hlevel props in ∥∥₁_elim h one (λ x. (is m x.1 x.2.found).1.0)

  pub step_inside : (step : Step) (s w : ℕ) → StepLeads at.found step (Some (Word s w)) → w < length (segment_of m s)
  step_inside step s w is =
      ∥∥₁_elim h (hlevel props) (λ x. let l = (is m x.1 x.2.found).1.1 in omega (arith, l))

  -- all elements of a list of structs lie inside their segment
  pub arrival_elements : (n d p : ℕ) → at.found.kind ≡ Structs n d p
      → at.found.place.start + 1 + n * (d + p) ≤ length (segment_of m at.found.place.segment)
  arrival_elements n d p e =
      ∥∥₁_elim h (hlevel props) (λ x. elements_inside m x.1 at.found n d p x.2.found e)

-- Some path arrives at what a path end leads to.
pub end_arrives : (m : List (List ℕ)) (words depth : ℕ) {end : PathEnd} (at : Arrival) → IsSomePathEnd m words depth end → end ≡ To at
    → SomeArrives m words depth at
end_arrives m words depth at h e =
    ∥∥₁_map (subst (λ (x : PathEnd). IsSomePathEnd m words depth x) e h) (λ x. (x.0, x.1.0, x.1.1))

-- what it leads to is found
pub end_found : (m : List (List ℕ)) (words depth : ℕ) (end : PathEnd) → IsSomePathEnd m words depth end → HasFound m end
end_found m words depth (To at) h = ∥∥₁_map h (λ x. (x.1.0, x.1.1.found))
end_found m words depth end h = search rules

module _ (m : List (List ℕ)) (end : PathEnd) (at : Arrival) (e : end ≡ To at) (h : HasFound m end) where
  there : HasFound m (To at)
  there = subst (λ (x : PathEnd). HasFound m x) e h
