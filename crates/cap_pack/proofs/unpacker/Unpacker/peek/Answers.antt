use Rattle.std.proofs.Common.{arith}
use Rattle.cap_pack.proofs.BufferedBytes.{words_ahead}
use Rattle.cap_pack.proofs.unpacker.Unpacker.peek.Goals as goal

pub returns-clause-words : goal.returns-clause-words
returns-clause-words g c =
    let s = c.args.self.now in
    words_ahead s.phase _ c.held.result.now c.unpack.new.out s.zeros s.plain s.bytes.read c.unpack.result c.in-Open.is c.unpack.ensures (omega arith) c.held.ensures.known
