use Rattle.cap_spec.proofs.ProofNames.{arith, length, rules, subst, sym, ℕ, ◌+◌, ◌<◌, ◌∙◌, ◌≡◌, segment_of}
use Rattle.cap_trace.specs.TraceNames.{HasCome}
use Rattle.cap_trace.specs.EarlierPointers.{used_places}
use Rattle.cap_trace.proofs.Coming.{at_root, has_root, some_number}
use Rattle.cap_trace.proofs.Sharing.{first_using_here, none_first, none_using, still_none}
use Rattle.cap_trace.proofs.earlier.first_using.Goals as goal

pub words-init : goal.words-init
words-init g c =
    let m = g.M.Segments.segments c.args.message.now in
    let (path, a) = c.requires.traced in
    let exists : 0 < length m = search rules in
    let some : 0 < length (segment_of m 0) = has_root m c.args.number path _ _ a.numbered in
    rw c.requires.start (record {
      before = omega (arith, some_number m c.args.number path _ _ a.numbered);
      come = at_root m c.args.depth exists some;
      none = none_first m (used_places c.args.used.now);
    })

pub returns-then-at-number : goal.returns-then-at-number
returns-then-at-number g c = λ path a.
    let m = g.M.Segments.segments c.args.message.now in
    let come = c.pass_nulls-at.ensures.come c.args.depth c.words.at c.words.invariant.come in
    let e : c.words.at + c.pass_nulls-at.result ≡ c.args.number = c.if-at-number.true in
    none_using m c.args.depth c.args.number _ c.pass_nulls-at.new.here (used_places c.args.used.now) path
    (subst (λ (u : ℕ). HasCome m c.args.depth u c.pass_nulls-at.new.branches.items c.pass_nulls-at.new.here) e come)
    (c.pass_nulls-at.ensures.unused c.args.depth c.words.at _ c.words.invariant.come c.words.invariant.none) a

pub uses_one-requires-clause-exists : goal.uses_one-requires-clause-exists
uses_one-requires-clause-exists g c = (c.pass_nulls-at.ensures.come c.args.depth c.words.at c.words.invariant.come).exists

pub uses_one-requires-clause-inside : goal.uses_one-requires-clause-inside
uses_one-requires-clause-inside g c = (c.pass_nulls-at.ensures.come c.args.depth c.words.at c.words.invariant.come).inside

pub returns-then-uses_one : goal.returns-then-uses_one
returns-then-uses_one g c = λ path a.
    let come = c.pass_nulls-at.ensures.come c.args.depth c.words.at c.words.invariant.come in
    let none = c.pass_nulls-at.ensures.unused c.args.depth c.words.at _ c.words.invariant.come c.words.invariant.none in
    first_using_here _ c.args.depth _ c.args.number _ c.pass_nulls-at.new.here (used_places c.args.used.now) path
    come none (c.uses_one.ensures.0 c.if-uses_one.true)
    (omega (arith, c.words.invariant.before, c.pass_nulls-at.ensures.few, c.if-at-number.false)) a

pub pass-requires-clause-come : goal.pass-requires-clause-come
pass-requires-clause-come g c = (_, c.pass_nulls-at.ensures.come c.args.depth c.words.at c.words.invariant.come)

pub words-preserved : goal.words-preserved
words-preserved g c =
    let come = c.pass_nulls-at.ensures.come c.args.depth c.words.at c.words.invariant.come in
    let none = c.pass_nulls-at.ensures.unused c.args.depth c.words.at _ c.words.invariant.come c.words.invariant.none in
    let next = c.in-Some.ensures _ come in record {
      before = omega (arith, c.words.invariant.before, c.pass_nulls-at.ensures.few, c.if-at-number.false);
      come = next;
      none = still_none _ c.args.depth _ _ _ c.pass_nulls-at.new.here c.in-Some.next (used_places c.args.used.now) come next none
          (λ uses. absurd (cc (sym c.if-uses_one.false ∙ c.uses_one.ensures.1 uses)));
    }

pub unreachable-requires : goal.unreachable-requires
unreachable-requires g c =
    let (path, a) = c.requires.traced in
    c.in-None.ensures _ (c.pass_nulls-at.ensures.come c.args.depth c.words.at c.words.invariant.come) c.args.number
    (omega (arith, c.words.invariant.before, c.pass_nulls-at.ensures.few, c.if-at-number.false)) path a
