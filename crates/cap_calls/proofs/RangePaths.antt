-- The paths of a range go through the same steps but for one.
use Rattle.cap_spec.proofs.ProofNames.{Err, List, None, Ok, Option, Result, Some, [], ap, arith, drop, get_or, length}
use Rattle.cap_spec.proofs.ProofNames.{refl, subst, suc, sym, take, zero, ℕ, ◌++◌, ◌<◌, ◌∷◌, ◌≡◌, PathFinds, rules}
use Rattle.cap_vet.specs.PathDemands.{IsPathFault, MeetsOnPath}
use Rattle.cap_vet.specs.GivenPaths.{GivesAfter, IsGiven, IsStart}
use Rattle.cap_calls.specs.CallNames.{Kind, Step, StrictRefusal, Demands, PathStart, View, path_after, step_after}
use Rattle.cap_calls.specs.CallNames.{CallStep}
use Rattle.cap_frame.specs.declared.segments.Segments as segments

-- A path goes through the steps before the one that varies, that one, and those after it.
pub path_parts : (steps : List CallStep) (v k : ℕ) (d : CallStep) → v < length steps
    → path_after steps v k ≡ path_after (take v steps) 0 0 ++ step_after (get_or steps v d) k ∷ path_after (drop (suc v) steps) 0 0
path_parts [] v k d l = absurd (omega (arith, l))
path_parts (s ∷ steps) zero k d l = refl
path_parts (s ∷ steps) (suc v) k d l =
    ap (λ (ss : List Step). step_after s 0 ∷ ss) (path_parts steps v k d (omega (arith, l)))

-- After the first steps the path gives what it gives as a whole.
pub given_path : {M : Type 0} {g : segments.Ghosts M} (demands : Demands) (m n : List (List ℕ)) (words depth : ℕ) (first rest path : List Step)
    (step : Step) (start : PathStart M g) (r : Result (Option (View M g)) StrictRefusal) → n ≡ m → IsStart demands m words depth first start
    → path ≡ first ++ step ∷ rest → GivesAfter n start step rest r → IsGiven demands m words depth path r
given_path demands m n words depth first rest path step start r e is f given =
    subst (λ (x : List (List ℕ)). IsGiven demands x words depth path r) e
    (subst (λ (p : List Step). IsGiven demands n words depth p r) (sym f)
    (given demands words depth first (subst (λ (x : List (List ℕ)). IsStart demands x words depth first start) (sym e) is)))

-- What is given for a path, as what is got of it.
module _ {M : Type 0} {g : segments.Ghosts M} (demands : Demands) (m : List (List ℕ)) (words depth : ℕ) (path : List Step)
    (r : Result (Option (View M g)) StrictRefusal) where
  pub given_node : (o : Option (View M g)) (v : View M g) → r ≡ Ok o → o ≡ Some v → IsGiven demands m words depth path r
      → MeetsOnPath demands m words depth path
      × PathFinds m path v.found.kind v.found.place.segment v.found.place.start v.found.place.words
  given_node o v e f h = search rules

  pub given_nothing : (o : Option (View M g)) → r ≡ Ok o → o ≡ None → IsGiven demands m words depth path r
      → MeetsOnPath demands m words depth path × ((k : Kind) (t b n : ℕ) → PathFinds m path k t b n → ⊥)
  given_nothing o e f h =
      let k : IsGiven {M = M} {g = g} demands m words depth path (Ok None) = search rules in
      (k.meets, k.none)

  pub given_fault : (fault : StrictRefusal) → r ≡ Err fault → IsGiven demands m words depth path r
      → IsPathFault demands m words depth path fault
  given_fault fault e h = search rules
