-- A buffer that is too small, or large enough.
use Rattle.std.proofs.Common.{arith}
use Rattle.cap_calls.proofs.Texts.{unpack_too_small, unpack_written}
use Rattle.cap_calls.proofs.calls.unpack.unpack_all.Goals as goal

pub returns-then-out-count : goal.returns-then-out-count
returns-then-out-count c =
    unpack_too_small c.args.bytes.now c.args.out.now _ (omega (arith, c.if-bytes-gt-MOST_PACKED.false))
    c.in-Some.ensures.whole
    (omega (arith, c.in-Some.ensures.words.0)) c.if-out-count.true

pub returns : goal.returns
returns c =
    rw c.write_unpacked.ensures
    (unpack_written c.args.bytes.now c.args.out.now _ (omega (arith, c.if-bytes-gt-MOST_PACKED.false))
    c.in-Some.ensures.whole
    (omega (arith, c.in-Some.ensures.words.0)) c.if-out-count.false)
