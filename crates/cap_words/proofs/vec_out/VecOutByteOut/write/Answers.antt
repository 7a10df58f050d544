use Rattle.std.proofs.Common.{rules}
use Rattle.cap_words.proofs.vec_out.VecOutByteOut.write.Goals as goal

pub returns-then-is_err-clause-bytes : goal.returns-then-is_err-clause-bytes
returns-then-is_err-clause-bytes c = search rules
