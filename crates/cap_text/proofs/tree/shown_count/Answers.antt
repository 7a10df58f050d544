use Rattle.std.proofs.Common.{rules}
use Rattle.cap_text.proofs.tree.shown_count.Goals as goal

pub returns-in-Struct : goal.returns-in-Struct
returns-in-Struct c = rw c.in-Struct.is c.from.ensures

pub returns-then-pointers-eq0 : goal.returns-then-pointers-eq0
returns-then-pointers-eq0 c = search rules
