use Rattle.std.proofs.Common.{rules}
use Rattle.cap_words.proofs.plain_words.PlainWords.new.Goals as goal

pub returns : goal.returns
returns g c = search rules
