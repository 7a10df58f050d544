-- The path in the slice.
use Rattle.cap_spec.proofs.ProofNames.{subst}
use Rattle.cap_walk.specs.Limits.{depth_of, words_of}
use Rattle.cap_calls.specs.PointerCalls.{FindsFew}
use Rattle.cap_calls.proofs.calls.pointer_path.TracingCall.on_one.Goals as goal

pub returns : goal.returns
returns c =
    subst (λ m. FindsFew c.args.self.now.number c.args.out.now c.traced.new.out m (words_of c.args.limits) (depth_of c.args.limits) c.traced.result)
    c.of.ensures c.traced.ensures
