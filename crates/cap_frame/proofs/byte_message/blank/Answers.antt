use Rattle.std.proofs.Common.{rules}
use Rattle.cap_frame.proofs.byte_message.blank.Goals as goal

pub returns-clause-sizes : goal.returns-clause-sizes
returns-clause-sizes c = search rules

pub returns-clause-starts : goal.returns-clause-starts
returns-clause-starts c = search rules
