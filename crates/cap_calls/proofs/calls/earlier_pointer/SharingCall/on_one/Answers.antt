-- The pointer in the slice.
use Rattle.cap_spec.proofs.ProofNames.{subst}
use Rattle.cap_walk.specs.Limits.{depth_of, words_of}
use Rattle.cap_calls.specs.EarlierCalls.{FindsEarlierCall}
use Rattle.cap_calls.proofs.calls.earlier_pointer.SharingCall.on_one.Goals as goal

pub returns : goal.returns
returns c =
    subst (λ m. FindsEarlierCall c.args.self.now.number m (words_of c.args.limits) (depth_of c.args.limits) c.earlier_found.result)
    c.of.ensures c.earlier_found.ensures
