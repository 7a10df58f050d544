-- What the end of a path says of the pointers on it.
use Rattle.cap_spec.proofs.ProofNames.{Bool, List, None, Option, false, length, refl, subst, sym, true, ℕ, ◌-◌}
use Rattle.cap_spec.proofs.ProofNames.{◌≡◌, ◌≤◌, PathFinds, AreOnPath, Charges, IsStartOf, Spot, IsLax, rules}
use Rattle.cap_spec.proofs.Verdicts.OnPath.{on_no_node}
use Rattle.cap_vet.specs.Charging.{EndsAt}
use Rattle.cap_vet.specs.VetNames.{Kind, Step, StrictRefusal, Arrives, EndsEarly, words_under, IsPathFault}
use Rattle.cap_vet.specs.VetNames.{MeetsOnPath, HasNoFaultBy, IsFaultBy, KnowsLaxOnPath, Demands, Arrival, LaxPointer}
use Rattle.cap_vet.proofs.Charging.{arrives_no_node, charges_no_node}
use Rattle.cap_vet.proofs.PathLax.{lax_same}

-- The pointers on the path, and what is known of them.
record Known (m : List (List ℕ)) (words depth : ℕ) (path : List Step) (at : Arrival) : Type 0 where
  ways : List (List Step)
  on_path : AreOnPath m path ways
  lax : KnowsLaxOnPath m path ways at.lax
  left : ℕ
  charges : Charges m words depth path left

known : (m : List (List ℕ)) (words depth : ℕ) (path : List Step) (at : Arrival) (found : Bool)
    → EndsAt m words depth path at found → Known m words depth path at
known m words depth path at true (a, h) = record {
  ways = h.ways;
  on_path = h.on_path;
  lax = h.lax;
  left = words - at.consumed;
  charges = search rules;
}
known m words depth path at false e =
    let h = e.arrives in
    let on = on_no_node m e.done e.rest h.ways e.step at.level e.spot h.on_path h.comes e.no_node in
    record {
      ways = h.ways;
      on_path = subst (λ x. AreOnPath m x h.ways) (sym e.whole) on;
      lax = search (rules, lax_same);
      left = words - at.consumed;
      charges = charges_no_node e.rest e.step (sym e.whole) h e.no_node;
    }

-- Nothing is at the path.
pub nothing_at : (m : List (List ℕ)) (words depth : ℕ) (path : List Step) (at : Arrival)
    → EndsEarly m words depth path at → (k : Kind) (t b n : ℕ) → ¬ PathFinds m path k t b n
nothing_at m words depth path at e k t b n =
    arrives_no_node e.rest e.step e.whole e.arrives e.no_node k t b n

-- Something is.
pub something_at : (m : List (List ℕ)) (words depth : ℕ) (path : List Step) (at : Arrival) (a : Spot)
    → Arrives m words depth path a at
    → PathFinds m path at.found.kind at.found.place.segment at.found.place.start at.found.place.words
something_at m words depth path at a h = (at.level, a, h.comes, h.found.object)

-- No pointer on it is rejected where none is known,
none_lax : (m : List (List ℕ)) (path : List Step) (ways : List (List Step)) → AreOnPath m path ways
    → KnowsLaxOnPath m path ways None → (q : List Step) → IsStartOf q path → ¬ IsLax m q
none_lax m path ways on k q b l = k q (on.all q l.0 l.1 l.2 b l.4) l

-- and the known one is the first.
pub meets_at : (demands : Demands) (m : List (List ℕ)) (words depth : ℕ) (path : List Step) (at : Arrival) (found : Bool)
    → EndsAt m (words_under demands m words) depth path at found → HasNoFaultBy demands (length m) at.lax
    → MeetsOnPath demands m words depth path
meets_at demands m words depth path at found e none =
    let h = known m (words_under demands m words) depth path at found e in
    record {
      within = (h.left, h.charges);
      strict = λ strict.
          let n = none strict in
          (n.0, none_lax m path h.ways h.on_path (subst (λ o. KnowsLaxOnPath m path h.ways o) n.1 h.lax));
    }

fault_by : (demands : Demands) (m : List (List ℕ)) (words depth : ℕ) (path : List Step) (at : Arrival) (o : Option LaxPointer)
    → length m ≤ 512 → at.lax ≡ o → Known m (words_under demands m words) depth path at → (fault : StrictRefusal)
    → IsFaultBy demands (length m) o fault → IsPathFault demands m words depth path fault
fault_by demands m words depth path at o k e h fault f = search rules

pub fault_at : (demands : Demands) (m : List (List ℕ)) (words depth : ℕ) (path : List Step) (at : Arrival) (found : Bool)
    (fault : StrictRefusal) → length m ≤ 512 → EndsAt m (words_under demands m words) depth path at found
    → IsFaultBy demands (length m) at.lax fault → IsPathFault demands m words depth path fault
fault_at demands m words depth path at found fault few e f =
    fault_by demands m words depth path at at.lax few refl (search (rules, known)) fault f
