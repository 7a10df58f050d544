-- What is found of the message is found of the nodes.
use Rattle.std.proofs.Common.{refl}
use Rattle.cap_calls.specs.RangeCalls.{bad_steps, range}
use Rattle.cap_calls.proofs.Answers.{message_by_flag}
use Rattle.cap_calls.proofs.calls.get_range.find.Goals as goal

pub returns-in-None : goal.returns-in-None
returns-in-None c =
    range c.in-None.ensures.none
    (message_by_flag c.args.limits.now c.args.bytes.now c.over.result _ c.allows_trailing-whole.ensures c.over.ensures)

pub returns-then-are_limits : goal.returns-then-are_limits
returns-then-are_limits c =
    bad_steps c.in-Some.at (c.are_limits.ensures.0 c.if-are_limits.true) c.in-Some.ensures.some c.bad_path.ensures refl
