use Rattle.std.proofs.Common.{rules}
use Rattle.cap_words.proofs.vec_out.VecOut.bytes.Goals as goal

pub returns : goal.returns
returns c = search rules
