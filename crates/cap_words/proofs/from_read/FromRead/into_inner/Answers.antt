use Rattle.std.proofs.Common.{rules}
use Rattle.cap_words.proofs.from_read.FromRead.into_inner.Goals as goal

pub returns : goal.returns
returns g c = search rules
