use Rattle.std.proofs.Common.{rules}
use Rattle.cap_frame.proofs.fault.SizeLimit.new.Goals as goal

pub returns-else-words-le-MOST_WORDS-clause-some : goal.returns-else-words-le-MOST_WORDS-clause-some
returns-else-words-le-MOST_WORDS-clause-some c = search rules
