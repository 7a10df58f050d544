-- Part of a word, and a buffer that is too small, or large enough.
use Rattle.std.proofs.Common.{arith, refl}
use Rattle.cap_calls.specs.PackCalls.{cut}
use Rattle.cap_calls.proofs.Packed.{cut_by_length, pack_too_small, pack_written}
use Rattle.cap_calls.proofs.calls.pack.pack_all.Goals as goal

pub returns-then-bytes-ne0-clause-reports : goal.returns-then-bytes-ne0-clause-reports
returns-then-bytes-ne0-clause-reports c = cut (cut_by_length c.args.bytes.now (omega (arith, c.if-bytes-ne0.true))) refl refl refl

pub returns-then-size-count-clause-reports : goal.returns-then-size-count-clause-reports
returns-then-size-count-clause-reports c =
    pack_too_small c.args.bytes.now c.args.out.now _ _ (omega arith) c.pack_into-count.ensures.len c.if-size-count.true
    (c.pack_into-count.ensures.too_small c.if-size-count.true)

pub returns-clause-reports : goal.returns-clause-reports
returns-clause-reports c =
    pack_written c.args.bytes.now c.args.out.now _ _ (omega arith) c.pack_into-count.ensures.len
    (omega (arith, c.if-size-count.false))
    (c.pack_into-count.ensures.written (omega (arith, c.if-size-count.false)))

pub returns-clause-bound : goal.returns-clause-bound
returns-clause-bound c = omega (arith, c.pack_into-count.ensures.few)

pub returns-then-size-count-clause-bound : goal.returns-then-size-count-clause-bound
returns-then-size-count-clause-bound c = omega (arith, c.pack_into-count.ensures.few)
