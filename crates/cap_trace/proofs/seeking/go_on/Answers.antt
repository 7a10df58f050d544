use Rattle.std.proofs.Common.{arith}
use Rattle.cap_trace.proofs.Coming.{none_higher, went_up}
use Rattle.cap_trace.proofs.seeking.go_on.Goals as goal

pub take-requires-clause-passed : goal.take-requires-clause-passed
take-requires-clause-passed c =
    let (m, depth, n, message, shallow, h) = c.requires in
    (m, depth, n, message, shallow, rw c.in-Some.ensures.items at c.up.invariant m depth n h)

pub up-preserved : goal.up-preserved
up-preserved c = λ m depth n h.
    went_up m depth n _ c.in-Some.branch (rw c.in-Some.ensures.items at c.up.invariant m depth n h) (omega (arith, c.if-branch.false))

pub returns-in-None : goal.returns-in-None
returns-in-None c = λ m depth n h more less path a.
    none_higher m depth n more _ path (c.up.invariant m depth n h) (λ some. cc (c.in-None.ensures.variant.1 some)) less a
