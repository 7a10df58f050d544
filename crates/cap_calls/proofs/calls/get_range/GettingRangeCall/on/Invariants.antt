use Rattle.cap_frame.specs.Bytes.{cut}
use Rattle.cap_calls.specs.RangeCalls.{path_after}
use Rattle.cap_calls.proofs.RangeGotten.{RangeSoFar}
use Rattle.cap_calls.proofs.calls.get_range.GettingRangeCall.on.Given as goal

abbrev pub invariant-nodes : goal.invariant-nodes
invariant-nodes l =
    RangeSoFar (λ k. path_after l.self.steps.now l.self.varying k) l.fn.out l.out l.fn.demands
    (cut l.view.sizes.now l.view.bytes.now) l.fn.limits.words l.fn.limits.depth l.k
