use Rattle.cap_spec.proofs.ProofNames.{List, None, Option, [], ap, append-nil, arith, length, option_to_list, refl, rules, subst, ℕ}
use Rattle.cap_spec.proofs.ProofNames.{◌++◌, ◌+◌, ◌∙◌, ◌∷◌, ◌≡◌, ◌≤◌, trim, Denotes, Tree}
use Rattle.cap_spec.proofs.Trees.OneTree.{one_tree}
use Rattle.cap_canon.specs.AtRuns.{AtRun}
use Rattle.cap_canon.specs.CanonNames.{Due, ForTrimmed, IsObject, Object, OptionFull, PointerPlace, first_place, below, own_size}
use Rattle.cap_canon.specs.CanonNames.{IsCopying, longest_copy, option_places, copy_work_left, CopyRun}
use Rattle.cap_canon.specs.Kept.{Kept}
use Rattle.cap_canon.specs.NullTurns.{with_first}
use Rattle.cap_canon.specs.StillToLay.{AreOwed, copy_runs_left}
use Rattle.cap_canon.proofs.Entering.{entered, capacity_above, work_more}
use Rattle.cap_canon.proofs.Lengths.{own_within}
use Rattle.cap_canon.proofs.NullRuns.{at_null, null_turn}
use Rattle.cap_canon.proofs.Owing.{next_work}
use Rattle.cap_canon.proofs.Runs.{has_rest}
use Rattle.cap_canon.proofs.Walks.{TurnHere, first_run, last_turn, next_run, turn_here, work_falls}
use Rattle.cap_canon.proofs.walk.walk_within.Goals as goal

module _ {m : List (List ℕ)} {state : List (List ℕ) → Tree → ℕ → List Due → Type 0} {depth : ℕ} {runs : List CopyRun} {end : ℕ} where
  -- the turn at the first word of a run
  here : {run : CopyRun} (object : Object) (k : AtRun m state depth runs run end)
      → ((t : Tree) (c d : ℕ) → Denotes m run.segment run.at t c d → IsObject m d run.segment run.at (trim t) object)
      → TurnHere m state depth (runs ++ option_to_list (has_rest run k.full).0) (first_place run) end object
  here {run} object k f = let r = has_rest run k.full in turn_here object k r.0 r.1 f

  word_here : {run : CopyRun} → AtRun m state depth runs run end → (t : Tree) × (c d : ℕ) × Denotes m run.segment run.at t c d
  word_here {run} k =
      let r = has_rest run k.full in
      let o = (k.turn r.0 r.1).next.owed in (o.0, o.1, o.2, o.3)

  module _ {p : PointerPlace} {object : Object} (h : TurnHere m state depth runs p end object) where
    within : end + own_size h.at.tree ≤ longest_copy
    within = own_within end longest_copy h.at.tree h.at.due p.slot h.at.next.small

    -- the runs after it
    walking : (r : Option CopyRun) (now : ℕ) (after : List CopyRun) → now ≡ end + own_size h.at.tree → OptionFull r
        → AreOwed m depth (length runs + 1) (option_places r) (below end h.at.tree) → runs ++ option_to_list r ≡ after
        → IsCopying m depth after now (below end h.at.tree ++ h.at.due)
    walking r now after e full owed same =
        subst (λ fs. IsCopying m depth fs now (below end h.at.tree ++ h.at.due)) same
        (entered m depth end now p h.at.tree h.at.due runs r object h.met e full owed)

    kept_on : (new old first : Tree → Kept) → new (trim h.at.root) ≡ old (trim h.at.root) → ForTrimmed m (λ u. old u ≡ first u)
        → ForTrimmed m (λ u. new u ≡ first u)
    kept_on new old first e k t x d n =
        subst (λ u. new (trim u) ≡ old (trim u)) (one_tree m 0 0 h.at.root t h.at.charge depth x d h.at.denotes n).part e ∙ k t x d n

pub walk-init : goal.walk-init
walk-init g c =
    let h = c.requires.tree in
    let so_far = c.requires.start h.tree h.charge c.args.depth h.denotes in
    let at = first_run _ (g.P.Pass.state c.args.pass.now) c.args.depth (search rules) h so_far in
    record { at = rw (c.new-stack.ensures, c.root-run.ensures) at; kept = λ t x d h. refl }

pub object_at-object-requires : goal.object_at-object-requires
object_at-object-requires g c = word_here c.walk.invariant.at

pub leads_to_null-requires : goal.leads_to_null-requires
leads_to_null-requires g c = word_here c.walk.invariant.at

pub visit-requires : goal.visit-requires
visit-requires g c =
    let h = here c.object_at-object.result c.walk.invariant.at c.object_at-object.ensures in
    (trim h.at.root, h.at.tree, h.at.due, h.turn, h.at.so_far)

pub run_of-below-requires : goal.run_of-below-requires
run_of-below-requires g c =
    let w = c.walk in
    let h = here c.object_at-object.result w.invariant.at c.object_at-object.ensures in
    (g.M.Segments.segments c.args.message.now, h.met.d, w.run.segment, w.run.at, h.at.tree, h.met.next.message, h.met.is, within h)

pub own_words-end-requires : goal.own_words-end-requires
own_words-end-requires g c =
    let w = c.walk in
    let h = here c.object_at-object.result w.invariant.at c.object_at-object.ensures in
    (g.M.Segments.segments c.args.message.now, h.met.d, w.run.segment, w.run.at, h.at.tree, h.met.is, omega (arith, within h))

pub overflow_add-end : goal.overflow_add-end
overflow_add-end g c =
    let w = c.walk in
    let h = here c.object_at-object.result w.invariant.at c.object_at-object.ensures in
    omega (arith, within h, c.own_words-end.ensures _ h.met.d w.run.segment w.run.at h.at.tree h.met.is)

pub go_on-requires-in-walk : goal.go_on-requires-in-walk
go_on-requires-in-walk g c =
    let w = c.walk in
    let h = here c.object_at-object.result w.invariant.at c.object_at-object.ensures in
    let owed = c.run_of-below.ensures.owed _ h.met.d w.run.segment w.run.at c.args.depth _ h.at.tree h.met.is h.met.levels in
    let capacity = capacity_above _ _ c.args.depth (below w.end h.at.tree) w.stack.items (has_rest w.run w.invariant.at.full).0
    c.run_of-below.result c.requires.capacity.0 c.run_of-below.ensures.full owed in
    (search rules, (c.requires.capacity.1, (capacity, (w.invariant.at.full, w.invariant.at.short))))

pub returns-then-not-go_on-2-clause-done : goal.returns-then-not-go_on-2-clause-done
returns-then-not-go_on-2-clause-done g c =
    let w = c.walk in
    let on = c.go_on-in-walk.ensures in
    let h = turn_here c.object_at-object.result w.invariant.at on.rest on.is_rest c.object_at-object.ensures in
    let e = ap (λ n. w.end + n) (c.own_words-end.ensures _ h.met.d w.run.segment w.run.at h.at.tree h.met.is) in
    let owed = c.run_of-below.ensures.owed _ h.met.d w.run.segment w.run.at c.args.depth _ h.at.tree h.met.is h.met.levels in
    let none = on.runs ∙ ap (λ b. copy_runs_left b c.go_on-in-walk.new.stack.items c.go_on-in-walk.new.run) c.if-not-go_on-2.true in
    last_turn (g.P.Pass.state w.pass) (g.P.Pass.state c.visit.new.self) h.at e
    (walking h c.run_of-below.result _ [] e c.run_of-below.ensures.full owed none)
    (c.visit.ensures.goes_on (trim h.at.root) h.at.tree h.at.due h.turn h.at.so_far)

pub returns-then-not-go_on-2-clause-kept : goal.returns-then-not-go_on-2-clause-kept
returns-then-not-go_on-2-clause-kept g c =
    let h = here c.object_at-object.result c.walk.invariant.at c.object_at-object.ensures in
    kept_on h (g.P.Pass.kept c.visit.new.self) (g.P.Pass.kept c.walk.pass) (g.P.Pass.kept c.args.pass.now)
    (c.visit.ensures.kept (trim h.at.root) h.at.tree h.at.due h.turn h.at.so_far) c.walk.invariant.kept

pub walk-smaller : goal.walk-smaller
walk-smaller g c =
    let w = c.walk in
    let on = c.go_on-in-walk.ensures in
    let h = turn_here c.object_at-object.result w.invariant.at on.rest on.is_rest c.object_at-object.ensures in
    let runs = w.stack.items ++ option_to_list on.rest in
    let new = c.go_on-in-walk.new in
    let same = on.runs ∙ ap (λ b. copy_runs_left b new.stack.items new.run) c.if-not-go_on-2.false in
    let e = c.own_words-end.ensures _ h.met.d w.run.segment w.run.at h.at.tree h.met.is in
    let owed = c.run_of-below.ensures.owed _ h.met.d w.run.segment w.run.at h.met.d 0 h.at.tree h.met.is (omega arith) in
    let more = work_more _ h.met.d w.run.segment w.run.at w.end h.at.tree c.object_at-object.result runs
    c.run_of-below.result h.met.is owed in
    let less = subst (λ (fs : List CopyRun). copy_work_left fs ≤ copy_work_left runs + own_size h.at.tree) same more in
    rw e (work_falls (copy_work_left (w.stack.items ++ w.run ∷ [])) (copy_work_left runs) (copy_work_left (new.stack.items ++ new.run ∷ [])) w.end longest_copy
    (own_size h.at.tree) (next_work w.stack.items w.run on.rest on.is_rest) less (within h))

pub walk-preserved : goal.walk-preserved
walk-preserved g c =
    let w = c.walk in
    let on = c.go_on-in-walk.ensures in
    let h = turn_here c.object_at-object.result w.invariant.at on.rest on.is_rest c.object_at-object.ensures in
    let e = ap (λ n. w.end + n) (c.own_words-end.ensures _ h.met.d w.run.segment w.run.at h.at.tree h.met.is) in
    let owed = c.run_of-below.ensures.owed _ h.met.d w.run.segment w.run.at c.args.depth _ h.at.tree h.met.is h.met.levels in
    let new = c.go_on-in-walk.new in
    let same = on.runs ∙ ap (λ b. copy_runs_left b new.stack.items new.run) c.if-not-go_on-2.false in record {
      at = next_run _ (g.P.Pass.state w.pass) (g.P.Pass.state c.visit.new.self) _ _ new.stack.items _ _ _ new.run h.at e
          (walking h c.run_of-below.result _ (new.stack.items ++ new.run ∷ []) e c.run_of-below.ensures.full owed same)
          (c.visit.ensures.goes_on (trim h.at.root) h.at.tree h.at.due h.turn h.at.so_far);
      kept = kept_on h (g.P.Pass.kept c.visit.new.self) (g.P.Pass.kept w.pass) (g.P.Pass.kept c.args.pass.now)
          (c.visit.ensures.kept (trim h.at.root) h.at.tree h.at.due h.turn h.at.so_far) w.invariant.kept;
    }

pub pass_nulls-requires-clause-at : goal.pass_nulls-requires-clause-at
pass_nulls-requires-clause-at g c = (c.args.depth, c.walk.end, c.walk.stack.items, c.walk.invariant.at)

pub pass_nulls-requires-clause-null : goal.pass_nulls-requires-clause-null
pass_nulls-requires-clause-null g c = c.leads_to_null.ensures.word c.if-leads_to_null.true

pub go_on-requires : goal.go_on-requires
go_on-requires g c =
    let w = c.walk in
    let k = (c.pass_nulls.ensures.goes_on c.args.depth w.end w.stack.items w.invariant.at).0 in
    (search rules, (c.requires.capacity.1, (tt, (k.full, k.short))))

pub returns-then-not-go_on-clause-done : goal.returns-then-not-go_on-clause-done
returns-then-not-go_on-clause-done g c =
    let w = c.walk in
    let on = c.go_on.ensures in
    let k = (c.pass_nulls.ensures.goes_on c.args.depth w.end w.stack.items w.invariant.at).0 in
    let h = null_turn k c.pass_nulls.ensures.null on.rest on.is_rest in
    let e : w.end ≡ w.end + own_size h.at.tree = omega (arith, ap own_size h.met.is) in
    let none = on.runs ∙ ap (λ b. copy_runs_left b c.go_on.new.stack.items c.go_on.new.run) c.if-not-go_on.true in
    last_turn (with_first (g.P.Pass.state c.pass_nulls.new.pass)) (g.P.Pass.state c.pass_nulls.new.pass) h.at e
    (walking h None _ [] e tt (rw h.met.is tt) none)
    (at_null (g.P.Pass.state c.pass_nulls.new.pass (g.M.Segments.segments c.args.message.now) (trim h.at.root)) h.at.tree w.end h.at.due h.met.is h.at.so_far)

pub returns-then-not-go_on-clause-kept : goal.returns-then-not-go_on-clause-kept
returns-then-not-go_on-clause-kept g c =
    let w = c.walk in
    λ t x d n. c.pass_nulls.ensures.kept c.args.depth w.end w.stack.items w.invariant.at t x d n ∙ w.invariant.kept t x d n

pub walk-preserved-then-leads_to_null : goal.walk-preserved-then-leads_to_null
walk-preserved-then-leads_to_null g c =
    let w = c.walk in
    let on = c.go_on.ensures in
    let k = (c.pass_nulls.ensures.goes_on c.args.depth w.end w.stack.items w.invariant.at).0 in
    let h = null_turn k c.pass_nulls.ensures.null on.rest on.is_rest in
    let e : w.end ≡ w.end + own_size h.at.tree = omega (arith, ap own_size h.met.is) in
    let new = c.go_on.new in
    let same = on.runs ∙ ap (λ b. copy_runs_left b new.stack.items new.run) c.if-not-go_on.false in record {
      at = next_run _ (with_first (g.P.Pass.state c.pass_nulls.new.pass)) (g.P.Pass.state c.pass_nulls.new.pass) _ _ new.stack.items _ _ _ new.run h.at e
          (walking h None _ (new.stack.items ++ new.run ∷ []) e tt (rw h.met.is tt) same)
          (at_null (g.P.Pass.state c.pass_nulls.new.pass (g.M.Segments.segments c.args.message.now) (trim h.at.root)) h.at.tree w.end h.at.due h.met.is h.at.so_far);
      kept = λ t x d n. c.pass_nulls.ensures.kept c.args.depth w.end w.stack.items w.invariant.at t x d n ∙ w.invariant.kept t x d n;
    }

pub walk-smaller-then-leads_to_null : goal.walk-smaller-then-leads_to_null
walk-smaller-then-leads_to_null g c =
    let w = c.walk in
    let on = c.go_on.ensures in
    let past = (c.pass_nulls.ensures.goes_on c.args.depth w.end w.stack.items w.invariant.at).1 in
    let new = c.go_on.new in
    let runs = w.stack.items ++ option_to_list on.rest in
    let left = on.runs ∙ ap (λ b. copy_runs_left b new.stack.items new.run) c.if-not-go_on.false in
    let same : runs ≡ new.stack.items ++ new.run ∷ [] = subst (λ fs. fs ≡ new.stack.items ++ new.run ∷ []) (append-nil runs) left in
    let less = next_work w.stack.items c.pass_nulls.new.run on.rest on.is_rest in
    let e = ap copy_work_left same in omega (arith, past, less, e)
