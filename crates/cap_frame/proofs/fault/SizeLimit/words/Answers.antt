use Rattle.std.proofs.Common.{rules}
use Rattle.cap_frame.proofs.fault.SizeLimit.words.Goals as goal

pub returns-clause-words : goal.returns-clause-words
returns-clause-words c = search rules
