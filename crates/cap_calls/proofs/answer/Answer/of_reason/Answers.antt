use Rattle.cap_calls.proofs.answer.Answer.of_reason.Goals as goal

pub returns-in-DepthLimit : goal.returns-in-DepthLimit
returns-in-DepthLimit c = rw c.in-DepthLimit.is
