use Rattle.std.proofs.Common.{rules}
use Rattle.cap_cmd.proofs.running.words_status.Goals as goal

pub returns-in-Truncated : goal.returns-in-Truncated
returns-in-Truncated c = search rules
