use Rattle.cap_spec.proofs.ProofNames.{arith, length, rules, ◌<◌, segment_of}
use Rattle.cap_trace.proofs.Coming.{at_root, has_root, some_number}
use Rattle.cap_trace.proofs.seeking.seek.Goals.{then-number-eq0-via-else-number-eq0+then-len-eq0}
use Rattle.cap_trace.proofs.seeking.seek.Goals.{then-number-eq0-via-then-number-eq0}
use Rattle.cap_trace.proofs.seeking.seek.Goals as goal

pub returns-then-number-eq0-clause-missing : goal.returns-then-number-eq0-clause-missing
returns-then-number-eq0-clause-missing g c = λ e path a.
    let m = g.M.Segments.segments c.args.message.now in
    let some : 0 < c.args.number = some_number m c.args.number path _ _ a.numbered in
    let root : 0 < length (segment_of m 0) = has_root m c.args.number path _ _ a.numbered in
    elim c.then-number-eq0.branch [
      | then-number-eq0-via-then-number-eq0 w ↦ omega (arith, w.if-number-eq0.true)
      | then-number-eq0-via-else-number-eq0+then-len-eq0 w ↦ omega (arith, w.len.ensures, w.if-len-eq0.true)
    ]

pub words-init : goal.words-init
words-init g c =
    let m = g.M.Segments.segments c.args.message.now in
    let exists : 0 < length m = search rules in
    let some : 0 < length (segment_of m 0) = omega (arith, c.len.ensures, c.if-len-eq0.false) in record {
      few = omega (arith, c.if-number-eq0.false);
      come = rw c.requires.start (at_root m c.args.depth exists some);
    }

pub pass-requires-clause-come : goal.pass-requires-clause-come
pass-requires-clause-come g c = (_, c.pass_nulls-at.ensures.come c.args.depth c.words.at c.words.invariant.come)

pub returns-in-None-clause-missing : goal.returns-in-None-clause-missing
returns-in-None-clause-missing g c = λ e path a.
    c.in-None.ensures _ (c.pass_nulls-at.ensures.come c.args.depth c.words.at c.words.invariant.come) c.args.number
    (omega (arith, c.words.invariant.few, c.pass_nulls-at.ensures.few, c.if-at-number.false)) path a
