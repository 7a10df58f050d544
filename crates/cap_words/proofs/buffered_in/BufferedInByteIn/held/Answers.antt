use Rattle.std.proofs.Common.{rules}
use Rattle.cap_words.proofs.buffered_in.BufferedInByteIn.held.Goals as goal

pub returns-clause-held : goal.returns-clause-held
returns-clause-held g c = search rules
