use Rattle.std.proofs.Common.{rules}
use Rattle.cap_words.proofs.buffered_in.BufferedIn.new.Goals as goal

pub returns-clause-broken : goal.returns-clause-broken
returns-clause-broken g c = search rules
