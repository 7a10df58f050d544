-- How a walk ends: at the first fault, or with the whole tree.
use Rattle.cap_spec.specs.declared.Reason.TheVariants.{NoRoot}
use Rattle.cap_spec.proofs.Frames.Messages.{HasWord-at}
use Rattle.cap_spec.proofs.Lemmas.{fault_tour}
use Rattle.cap_spec.proofs.ProofNames.{List, None, Option, Some, [], arith, inl, inr, length, length-append, map}
use Rattle.cap_spec.proofs.ProofNames.{refl, reverse, subst, sym, ℕ, ◌++◌, ◌+◌, ◌<◌, ◌∷◌, ◌≡◌, HasNoRoot, IsFaultAt}
use Rattle.cap_spec.proofs.ProofNames.{IsFirstFault, AreShallow, IsFirstReason, segment_of, IsTour, Reaches, CostOf}
use Rattle.cap_spec.proofs.ProofNames.{common_steps, rules}
use Rattle.cap_spec.proofs.Verdicts.OneFault.{none_before}
use Rattle.cap_walk.specs.PointerRuns.{root_run}
use Rattle.cap_spec.specs.declared.Reason.{Reason}
use Rattle.cap_walk.specs.WalkNames.{Step, depth_of, words_of, pointer_word_of, IsAccepted, IsFirstCapOf}
use Rattle.cap_walk.specs.Reports.{IsVetted}
use Rattle.cap_walk.specs.WalkNames.{Ahead, IsTrail, IsWalking, HasWalked, IsFirstOf, IsNext, Progress}
use Rattle.cap_walk.specs.WalkNames.{Limits, Report, PointerRun}
use Rattle.cap_walk.specs.Turns.{HoldsBefore, HoldsOfAll}
use Rattle.cap_walk.specs.declared.turn.Stopped.{Stopped}
use Rattle.cap_walk.specs.declared.turn.Stopped.TheVariants.{ByTurn, Refused}
use Rattle.cap_walk.proofs.Tours.{in_order, in_order-IsOneOf, in_order-reverse, length-in_order, onto, tour_of}

-- paths in order, and one more
onto-append : (seen later more : List (List Step)) → onto seen (later ++ more) ≡ onto seen later ++ more
onto-append [] later more = refl
onto-append (p ∷ seen) later more = onto-append seen (p ∷ later) more

-- what paths cost, in order
CostOf-onto : (m : List (List ℕ)) (seen later : List (List Step)) (c d : ℕ) → CostOf m seen c → CostOf m later d → CostOf m (onto seen later) (c + d)
CostOf-onto m [] later c d h k = subst (CostOf m later) (omega (arith, h)) k
CostOf-onto m (p ∷ seen) later c d (level, s, w, one, rest, r, cost, others, e) k =
    subst (CostOf m (onto seen (p ∷ later))) (omega (arith, e)) (CostOf-onto m seen (p ∷ later) rest (one + d) others (level, s, w, one, d, r, cost, k, refl))

pub CostOf-in_order : (m : List (List ℕ)) (seen : List (List Step)) (c : ℕ) → CostOf m seen c → CostOf m (in_order seen) c
CostOf-in_order m seen c h = subst (CostOf m (in_order seen)) (omega arith) (CostOf-onto m seen [] c 0 h refl)

-- A first segment without words has no root.
pub no_root_at : (m : List (List ℕ)) → 0 < length m → length (segment_of m 0) ≡ 0 → HasNoRoot m record { segment = 0; word = 0; reason = NoRoot; pointers = 0 }
no_root_at m h e = grind (arith, common_steps)

-- The first reason that applies at the next word makes it the first fault.
pub first_fault : (m : List (List ℕ)) (words depth s w level : ℕ) (runs : List PointerRun) (report : Report) (v : Reason)
    → IsNext m words depth s w level runs report
    → IsFirstReason m words depth report.charge s w level v → IsFirstFault m words depth record {
      segment = s;
      word = w;
      reason = v;
      pointers =
          report.pointers + 1;
    }
first_fault m words depth s w level runs report v t h =
    let e : in_order (t.a.path ∷ t.seen) ≡ in_order t.seen ++ t.a.path ∷ [] = onto-append t.seen [] (t.a.path ∷ []) in
    let many : length (in_order t.seen ++ t.a.path ∷ []) ≡ report.pointers + 1 =
    omega (arith, length-append (in_order t.seen) (t.a.path ∷ []), length-in_order t.seen, t.progress.number) in
    let shallow : AreShallow m depth (in_order t.seen) =
    (λ p l s' w' i r. t.progress.levels p l s' w' (in_order-IsOneOf p t.seen i) r) in
    let fault : IsFaultAt m words depth t.a.path record { segment = s; word = w; reason = v; pointers = report.pointers + 1 } =
    record {
      numbered = record {
        level = level;
        tour = in_order t.seen ++ t.a.path ∷ [];
        reached = rw (t.segment, t.at, t.leads_to) at t.progress.trail.ahead_reached.0;
        is_tour = subst (IsTour m t.a.path) e (tour_of m t.seen t.a t.ahead t.progress.trail);
        count = sym many;
      };
      before = in_order t.seen;
      charge = report.charge;
      whole = refl;
      costs = CostOf-in_order m t.seen report.charge t.progress.costs;
      reason = h;
    } in record {
      path = t.a.path;
      fault = fault;
      first = record {
        holds = (record { segment = s; word = w; reason = v; pointers = report.pointers + 1 }, fault);
        first = λ other b (r, g). search (rules, none_before, fault_tour);
      };
      few = omega (arith, t.progress.bound, t.progress.within);
    }

-- It comes after the paths that were looked at.
pub fault_next : {m : List (List ℕ)} {words depth s w level : ℕ} (runs : List PointerRun) {report : Report} {v : Reason}
    → (n : IsNext m words depth s w level runs report) → IsFirstReason m words depth report.charge s w level v
    → (f : IsFirstFault m words depth record { segment = s; word = w; reason = v; pointers = report.pointers + 1 })
    × (f.fault.before ≡ reverse n.seen)
unfolding first_fault
fault_next {m} {words} {depth} {s} {w} {level} runs {report} {v} n h =
    (first_fault m words depth s w level runs report v n h, in_order-reverse n.seen)

-- What follows from what holds of all paths before a fault holds of them too.
pub before_weaker : {S : Type 0} (m : List (List ℕ)) (limits : Limits) (K L : List (List Step) → Type 0) (stopped : Stopped S)
    → ((seen : List (List Step)) → K seen → L seen) → HoldsBefore m limits K stopped → HoldsBefore m limits L stopped
before_weaker m limits K L (Refused refusal) weaker (inl h) = inl (h.0, weaker [] h.1)
before_weaker m limits K L (Refused refusal) weaker (inr h) = inr (h.0, h.1, h.2, weaker h.1 h.3)
before_weaker m limits K L (ByTurn stop) weaker h = tt

-- where no word is ahead, none is left on the runs
none_ahead : (ahead : List Ahead) → map pointer_word_of ahead ≡ [] → ahead ≡ []
none_ahead [] e = refl
none_ahead (a ∷ ahead) e = absurd (let h : pointer_word_of a ∷ map pointer_word_of ahead ≡ [] = e in cc)

-- the first capability of all paths
whole_first_cap : (m : List (List ℕ)) (seen : List (List Step)) (first : Option (ℕ × ℕ)) → IsTrail m seen [] → IsFirstOf m seen first → IsFirstCapOf m first
whole_first_cap m seen None t h = λ path (level, s, w, k, i, r, lead). h path s w
    (elim (t.complete path level s w r) [ inl h ↦ h | inr h ↦ absurd h ]) (level, k, i, r, lead)
whole_first_cap m seen (Some place) t (p, one, (level, k, i, r, lead), first) = record {
  path = p;
  level = level;
  reached = r;
  first = record {
    holds = (level, place.0, place.1, k, i, r, lead);
    first = λ other before (level', s', w', k', i', r', lead'). first other s' w'
        (elim (t.complete other level' s' w' r') [ inl h ↦ h | inr h ↦ absurd h ]) before (level', k', i', r', lead');
  };
}

-- A walk with nothing ahead has the whole tree,
accepted_at_end : {m : List (List ℕ)} {words depth : ℕ} {report : Report} (seen : List (List Step)) (ahead : List Ahead)
    → HasWalked m words depth [] report seen ahead
    → IsAccepted m words depth report
accepted_at_end {m} {words} {depth} {report} seen ahead w =
    let none : ahead ≡ [] = none_ahead ahead w.places in
    let (t, d, whole) = (subst (Progress m words depth report.charge report.depth report.pointers report.caps
    report.first_cap seen) none w.progress).count.completes 0 0 0 0 (refl, refl, refl, refl) in
    let f : d ≡ report.depth = omega (arith, whole.depth) in search (rules, whole_first_cap)

-- and its turn knows of all paths.
pub whole_at_end : {m : List (List ℕ)} {limits : Limits} {report : Report} {K : List (List Step) → Type 0}
    → IsWalking m limits [] report K → IsAccepted m (words_of limits) (depth_of limits) report × HoldsOfAll m K
whole_at_end w = (
  accepted_at_end w.seen w.ahead w.walks,
  (w.seen, rw (← none_ahead w.ahead w.walks.places) w.walks.progress.trail, w.known),
)

-- What is accepted within limits is accepted within the greatest.
pub vetted_within : (m : List (List ℕ)) (limits : Limits) (report : Report) → IsAccepted m (words_of limits) (depth_of limits) report → IsVetted m report
vetted_within m limits report (t, a) = search rules

-- Before the first word nothing was looked at, and the root is ahead.
starts : (m : List (List ℕ)) (words depth : ℕ) (report : Report) → 0 < length m → 0 < length (segment_of m 0)
    → report.charge ≡ 0 → report.depth ≡ 0 → report.pointers ≡ 0 → report.caps ≡ 0 → report.first_cap ≡ None → IsNext m words depth 0 0 1 [] report
starts m words depth report some root e1 e2 e3 e4 e5 =
    let x = HasWord-at m 0 0 root in
    let r : Reaches m [] 1 0 0 = (x.0, 0, x.1, (refl, refl), refl) in record {
      seen = [];
      a = record { path = []; segment = 0; word = 0; level = 1 };
      ahead = [];
      progress = search rules;
      segment = refl;
      at = refl;
      leads_to = refl;
      exists = some;
      within = root;
      places = refl;
      inside = tt;
      stacked = tt;
      high = omega arith;
      low = omega arith;
    }

pub begins : (m : List (List ℕ)) (limits : Limits) (report : Report) (K : List (List Step) → Type 0) → 0 < length m → 0 < length (segment_of m 0)
    → report.charge ≡ 0 → report.depth ≡ 0 → report.pointers ≡ 0 → report.caps ≡ 0 → report.first_cap ≡ None → K []
    → IsWalking m limits (root_run ∷ []) report K
unfolding starts
begins m limits report K some root e1 e2 e3 e4 e5 k =
    search (rules, starts m (words_of limits) (depth_of limits) report some root e1 e2 e3 e4 e5)
