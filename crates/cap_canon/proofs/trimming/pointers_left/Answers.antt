use Rattle.std.proofs.Common.{arith, rules}
use Rattle.cap_canon.proofs.Children.{child_at, child_below, child_here, row_needed}
use Rattle.cap_canon.proofs.trimming.pointers_left.Goals as goal

pub loop-left-init : goal.loop-left-init
loop-left-init g c = search (rules, row_needed)

pub is_null_at-requires : goal.is_null_at-requires
is_null_at-requires g c =
    let r = c.requires.denote in
    let k = child_at _ _ _ c.args.count r.0 _ _ _ r.3 (omega (arith, c.loop-left-test.true, c.loop-left.invariant.high)) in
    (k.0, k.1, k.2, k.4)

pub returns-then-not-is_null_at-clause-value : goal.returns-then-not-is_null_at-clause-value
returns-then-not-is_null_at-clause-value g c = λ ts c' d h.
    child_here (g.M.Segments.segments c.args.message.now) c.args.segment c.args.start c.args.count c.loop-left.left c.args.least c.is_null_at.result ts c' d
    c.loop-left-test.true c.loop-left.invariant.high h c.is_null_at.ensures c.if-not-is_null_at.true (c.loop-left.invariant.needed ts c' d h)

pub loop-left-preserved : goal.loop-left-preserved
loop-left-preserved g c = record {
  low = omega (arith, c.loop-left-test.true);
  high = omega (arith, c.loop-left.invariant.high);
  needed = λ ts c' d h.
      child_below (g.M.Segments.segments c.args.message.now) c.args.segment c.args.start c.args.count c.loop-left.left c.args.least c.is_null_at.result ts c'
      d c.loop-left-test.true c.loop-left.invariant.high h c.is_null_at.ensures c.if-not-is_null_at.false (c.loop-left.invariant.needed ts c' d h);
}
