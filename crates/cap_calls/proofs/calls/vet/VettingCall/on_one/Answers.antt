-- The verdict of the slice.
use Rattle.cap_spec.proofs.ProofNames.{subst, ⊤}
use Rattle.cap_walk.specs.Limits.{depth_of, words_of}
use Rattle.cap_calls.specs.CallNames.{Judges, IsGood}
use Rattle.cap_calls.proofs.calls.vet.VettingCall.on_one.Goals as goal

pub returns : goal.returns
returns c =
    subst (λ m. Judges c.args.demands ⊤ IsGood m (words_of c.args.limits) (depth_of c.args.limits) c.judged.result)
    c.of.ensures c.judged.ensures
