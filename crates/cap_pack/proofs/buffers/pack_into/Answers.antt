-- The text is written where there is capacity, and only there.
use Rattle.std.proofs.Common.{List, ap, arith, drop, ℕ, ◌++◌}
use Rattle.cap_pack.proofs.buffers.pack_into.Goals as goal

pub returns-then-out-len-clause-written : goal.returns-then-out-len-clause-written
returns-then-out-len-clause-written c = λ h. absurd (omega (arith, h, c.if-out-len.true))

pub returns-clause-written : goal.returns-clause-written
returns-clause-written c = λ _. ap (λ (t : List ℕ). t ++ drop c.packed_len-len.result c.args.out.now) c.write_text.ensures

pub returns-clause-too_small : goal.returns-clause-too_small
returns-clause-too_small c = λ h. absurd (omega (arith, h, c.if-out-len.false))
