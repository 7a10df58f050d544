use Rattle.std.proofs.Common.{rules}
use Rattle.cap_words.proofs.from_write.FromWrite.new.Goals as goal

pub returns-clause-broken : goal.returns-clause-broken
returns-clause-broken g c = search rules
