use Rattle.std.proofs.Common.{rules}
use Rattle.cap_frame.proofs.byte_reader.make_space.Goals as goal

pub returns-else-capacity-need-clause-ok : goal.returns-else-capacity-need-clause-ok
returns-else-capacity-need-clause-ok c = search rules

pub returns-in_err-bytes-clause-refused : goal.returns-in_err-bytes-clause-refused
returns-in_err-bytes-clause-refused c = search rules

pub returns-in_ok-bytes-clause-refused : goal.returns-in_ok-bytes-clause-refused
returns-in_ok-bytes-clause-refused c = search rules

pub returns-else-capacity-need-clause-refused : goal.returns-else-capacity-need-clause-refused
returns-else-capacity-need-clause-refused c = search rules
