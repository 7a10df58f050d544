-- The lines on the slice.
use Rattle.cap_spec.proofs.ProofNames.{subst}
use Rattle.cap_walk.specs.Limits.{depth_of, words_of}
use Rattle.cap_calls.specs.OverlapCalls.{FindsFewOverlapLines}
use Rattle.cap_calls.proofs.calls.explain_overlap.OverlappingCall.on_one.Goals as goal

pub returns : goal.returns
returns c =
    let call = c.args.self.now in
    subst (λ m. FindsFewOverlapLines call.has_table call.pointer c.args.out.now c.overlap_found.new.out m (words_of c.args.limits)
    (depth_of c.args.limits) c.overlap_found.result) c.of.ensures c.overlap_found.ensures
