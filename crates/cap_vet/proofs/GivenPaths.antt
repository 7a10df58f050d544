-- What is given for a path, by where it leads.
use Rattle.std.proofs.Common.{IsOk}
use Rattle.cap_spec.proofs.ProofNames.{Err, List, None, Ok, Option, Result, Some, [], ap, append-nil, append_assoc}
use Rattle.cap_spec.proofs.ProofNames.{false, inr, length, refl, subst, sym, true, ℕ, ◌++◌, ◌∙◌, ◌∷◌, ◌≡◌, ◌≤◌}
use Rattle.cap_spec.proofs.ProofNames.{PathFinds, IsFaultOnPath, IsRefusedOnPath, Spot, StepsTo, rules}
use Rattle.cap_vet.specs.GivenPaths.{IsGiven}
use Rattle.cap_vet.specs.VetNames.{Refusal, Step, StrictRefusal, Arrives, EndsEarly, words_under, IsPathFault}
use Rattle.cap_vet.specs.VetNames.{MeetsOnPath, HasNoFaultBy, IsFaultBy, GivesAfter, IsPathEnd, Demands, Arrival, Found}
use Rattle.cap_vet.specs.VetNames.{PathStart, View, PathEnd, To}
use Rattle.cap_vet.specs.declared.nodes.path_end.PathEnd.TheVariants.{Early}
use Rattle.cap_vet.proofs.Charging.{fault_longer}
use Rattle.cap_vet.proofs.PathEnds.{fault_at, meets_at, nothing_at, something_at}
use Rattle.cap_vet.proofs.PathFaults.{meets_no_path_fault, one_path_fault}
use Rattle.cap_frame.specs.declared.segments.Segments as segments
use Rattle.cap_spec.specs.declared.StrictRefusal.TheVariants as fault

-- A path goes on as far as one that begins it, if that leads to nothing or is refused.
module _ (m : List (List ℕ)) (words depth : ℕ) (path more : List Step) where
  pub no_node_longer : (at : Arrival) → EndsEarly m words depth path at → EndsEarly m words depth (path ++ more) at
  no_node_longer at e = search (rules, append_assoc)

  pub refused_longer : (r : Refusal) → IsRefusedOnPath m words depth path r → IsRefusedOnPath m words depth (path ++ more) r
  refused_longer r h = search (rules, fault_longer)

-- One step more leads to nothing,
pub step_no_node : (m : List (List ℕ)) (words depth : ℕ) (path rest : List Step) (step : Step) (a : Spot) (at : Arrival)
    → Arrives m words depth path a at → ((b : Spot) → StepsTo m a step b → ⊥) → EndsEarly m words depth (path ++ step ∷ rest) at
step_no_node m words depth path rest step a at h none =
    record { done = path; step = step; rest = rest; spot = a; whole = refl; arrives = h; no_node = none }

-- is refused,
pub step_refused : {m : List (List ℕ)} {words depth : ℕ} (path rest : List Step) (step : Step) {r : Refusal}
    → IsFaultOnPath m words depth (path ++ step ∷ []) r → IsRefusedOnPath m words depth (path ++ step ∷ rest) r
step_refused path rest step f =
    inr (fault_longer rest (append_assoc path (step ∷ []) rest) f)

-- or leads on.
pub step_on : (m : List (List ℕ)) (words depth : ℕ) (path rest : List Step) (step : Step) (end : PathEnd)
    → IsPathEnd m words depth ((path ++ step ∷ []) ++ rest) end → IsPathEnd m words depth (path ++ step ∷ rest) end
step_on m words depth path rest step end h =
    subst (λ (ss : List Step). IsPathEnd m words depth ss end) (append_assoc path (step ∷ []) rest) h

-- The limits by other names.
pub end_as : (m : List (List ℕ)) {w x d y : ℕ} (path : List Step) (end : PathEnd) → w ≡ x → d ≡ y → IsPathEnd m w d path end
    → IsPathEnd m x y path end
end_as m {x} {d} path end e f h =
    subst (λ z. IsPathEnd m x z path end) f (subst (λ z. IsPathEnd m z d path end) e h)

module _ {M : Type 0} {g : segments.Ghosts M} (demands : Demands) (m : List (List ℕ)) (words depth : ℕ) (path : List Step) where
  -- a reason why the pointers don't meet the demands
  fault_given : (fault : StrictRefusal) → IsPathFault demands m words depth path fault
      → IsGiven {M = M} {g = g} demands m words depth path (Err fault)
  fault_given fault h = record { meets = tt; none = tt; some = tt; err = h }

  pub refusal_given : (r : Refusal) → IsRefusedOnPath m (words_under demands m words) depth path r
      → IsGiven {M = M} {g = g} demands m words depth path (Err (fault.Refused r))
  refusal_given r h = fault_given (fault.Refused r) h

  -- of a path to something
  pub to_fault_given : (at : Arrival) (fault : StrictRefusal) → length m ≤ 512
      → IsPathEnd m (words_under demands m words) depth path (To at) → IsFaultBy demands (length m) at.lax fault
      → IsGiven {M = M} {g = g} demands m words depth path (Err fault)
  to_fault_given at fault few h f = fault_given fault (fault_at demands m words depth path at true fault few h f)

  pub something_given : (at : Arrival) (v : View M g) → v.found ≡ at.found
      → IsPathEnd m (words_under demands m words) depth path (To at) → HasNoFaultBy demands (length m) at.lax
      → IsGiven demands m words depth path (Ok (Some v))
  something_given at v e h none = record {
    meets = meets_at demands m words depth path at true h none;
    none = tt;
    some = subst (λ (f : Found). PathFinds m path f.kind f.place.segment f.place.start f.place.words) (sym e)
        (something_at m (words_under demands m words) depth path at h.0 h.1);
    err = tt;
  }

  -- and of a path to nothing
  pub no_node_fault_given : (at : Arrival) (fault : StrictRefusal) → length m ≤ 512
      → IsPathEnd m (words_under demands m words) depth path (Early at) → IsFaultBy demands (length m) at.lax fault
      → IsGiven {M = M} {g = g} demands m words depth path (Err fault)
  no_node_fault_given at fault few h f = fault_given fault (fault_at demands m words depth path at false fault few h f)

  pub nothing_given : (at : Arrival) → IsPathEnd m (words_under demands m words) depth path (Early at)
      → HasNoFaultBy demands (length m) at.lax → IsGiven {M = M} {g = g} demands m words depth path (Ok None)
  nothing_given at h none = record {
    meets = meets_at demands m words depth path at false h none;
    none = nothing_at m (words_under demands m words) depth path at h;
    some = tt;
    err = tt;
  }

  -- So a path that meets the demands gives no fault, and a fault is the one that it gives.
  pub given_accepts : (r : Result (Option (View M g)) StrictRefusal) → IsGiven demands m words depth path r
      → MeetsOnPath demands m words depth path → IsOk r
  given_accepts r h meets = search (rules, meets_no_path_fault)

  pub given_refuses : (r : Result (Option (View M g)) StrictRefusal) (fault : StrictRefusal)
      → IsGiven demands m words depth path r → IsPathFault demands m words depth path fault → r ≡ Err fault
  given_refuses r fault h f = search (rules, meets_no_path_fault, one_path_fault)

-- the steps done, the next one and the others
pub all_steps : (first done steps more rest : List Step) (step : Step) → steps ≡ done ++ more → more ≡ step ∷ rest
    → (first ++ done) ++ step ∷ rest ≡ first ++ steps
all_steps first done steps more rest step e f =
    append_assoc first done (step ∷ rest) ∙ ap (λ (ss : List Step). first ++ ss) (search rules)

-- no more steps
pub done_steps : (first done steps more : List Step) → steps ≡ done ++ more → more ≡ [] → first ++ done ≡ first ++ steps
done_steps first done steps more e f =
    ap (λ (ss : List Step). first ++ ss) (sym (e ∙ ap (λ (ss : List Step). done ++ ss) f ∙ append-nil done))

-- After the first steps the path gives what it gives as a whole.
pub given_after : {M : Type 0} {g : segments.Ghosts M} {m : List (List ℕ)} {start : PathStart M g} (step : Step) (rest : List Step) (end : PathEnd)
    {result : Result (Option (View M g)) StrictRefusal}
    → ((words depth : ℕ) (path : List Step) → IsPathEnd m (words_under start.demands m words) depth path end
    → IsGiven start.demands m words depth path result)
    → ((first : List Step) → IsPathEnd m start.words start.depth first start.end
    → IsPathEnd m start.words start.depth (first ++ step ∷ rest) end)
    → GivesAfter m start step rest result
given_after {m} {start} step rest end {result} given on = λ demands words depth first is.
    let path = first ++ step ∷ rest in
    let limit : start.words ≡ words_under start.demands m words = is.limit ∙ ap (λ (d : Demands). words_under d m words) (sym is.under) in
    let leads : IsPathEnd m (words_under start.demands m words) depth path end = end_as m path end limit is.deepest (on first is.end) in
    subst (λ (d : Demands). IsGiven d m words depth path result) is.under (given words depth path leads)
