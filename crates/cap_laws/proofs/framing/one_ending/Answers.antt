use Rattle.cap_spec.proofs.Frames.OneEnding.{one_ending, some_ending}
use Rattle.cap_laws.proofs.framing.one_ending.Goals as goal

pub returns : goal.returns
returns c = λ limit words cut all.
    let e = some_ending limit words cut all in
    (e.0, e.1, λ other o. one_ending limit words cut e.0 other e.1 o)
