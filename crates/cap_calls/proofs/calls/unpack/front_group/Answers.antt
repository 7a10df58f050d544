-- The group in front, by its tag.
use Rattle.std.proofs.Common.{arith, sym}
use Rattle.cap_calls.proofs.Unpacked.{marked_length, plain_count}
use Rattle.cap_calls.proofs.calls.unpack.front_group.Goals as goal

pub returns-then-bytes-len-2-clause-cut : goal.returns-then-bytes-len-2-clause-cut
returns-then-bytes-len-2-clause-cut c =
    omega (
      arith,
      marked_length c.args.bytes.now c.requires (c.type_inv.bytes 0).fits (omega arith) (omega arith),
      c.if-bytes-len-2.true,
    )

pub returns-else-bytes-len-clause-words : goal.returns-else-bytes-len-clause-words
returns-else-bytes-len-clause-words c =
    let words = plain_count c.args.bytes.now c.in-255.is (omega (arith, c.from-in-255.ensures, c.if-bytes-len.false)) in
    (omega (arith, words, c.from-in-255-2.ensures), omega (arith, c.from-in-255.ensures, c.from-in-255-2.ensures))

pub returns-else-bytes-len-2-clause-bytes : goal.returns-else-bytes-len-2-clause-bytes
returns-else-bytes-len-2-clause-bytes c =
    let bytes = marked_length c.args.bytes.now c.requires (c.type_inv.bytes 0).fits (omega arith) (omega arith) in
    (sym bytes, omega arith, c.if-bytes-len-2.false)
