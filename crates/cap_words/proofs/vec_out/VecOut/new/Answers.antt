use Rattle.std.proofs.Common.{rules}
use Rattle.cap_words.proofs.vec_out.VecOut.new.Goals as goal

pub returns-clause-none_failed : goal.returns-clause-none_failed
returns-clause-none_failed c = search rules
