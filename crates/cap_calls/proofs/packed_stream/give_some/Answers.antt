-- Without a run it is the next group.
use Rattle.std.proofs.Common.{arith, subst, ℕ, ◌≡◌}
use Rattle.cap_calls.specs.PackedStreams.{WritesWords}
use Rattle.cap_calls.proofs.packed_stream.give_some.Goals as goal

pub returns-else-literal-gt0-clause-gives : goal.returns-else-literal-gt0-clause-gives
returns-else-literal-gt0-clause-gives c =
    let z : 0 ≡ c.args.zeros = omega (arith, c.if-zeros-gt0.false) in
    let p : 0 ≡ c.args.literal = omega (arith, c.if-literal-gt0.false) in
    let new = c.give_first.new.out in
    subst (λ (k : ℕ). WritesWords 0 k c.args.literal c.args.bytes.now c.args.out.now new c.give_first.result) z
    (subst (λ (k : ℕ). WritesWords 0 0 k c.args.bytes.now c.args.out.now new c.give_first.result) p c.give_first.ensures.gives)
