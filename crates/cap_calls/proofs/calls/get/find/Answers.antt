-- What is found of the path is found of the first node.
use Rattle.cap_calls.specs.NodeCalls.{a_path, bad_path}
use Rattle.cap_calls.proofs.Answers.{message_by_flag}
use Rattle.cap_calls.proofs.Gotten.{first_reported}
use Rattle.cap_calls.proofs.calls.get.find.Goals as goal

pub returns-in-Ok : goal.returns-in-Ok
returns-in-Ok c =
    let l = c.args.limits.now in
    let bs = c.args.bytes.now in
    let path = c.in-Ok.ensures.ok in
    a_path path.0 path.1 path.2
    (first_reported l bs path.0 c.in-Ok.steps c.none-in-Ok.result _ c.over-found.new.out c.over-found.result
    c.none-in-Ok.ensures path.3 (message_by_flag l bs c.over-found.result _ c.allows_trailing-whole.ensures c.over-found.ensures))

pub returns-then-are_limits : goal.returns-then-are_limits
returns-then-are_limits c =
    bad_path c.in-Err.at (c.are_limits.ensures.0 c.if-are_limits.true) c.in-Err.ensures.bad c.bad_path.ensures c.none.ensures
