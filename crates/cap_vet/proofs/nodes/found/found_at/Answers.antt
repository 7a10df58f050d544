use Rattle.std.proofs.Common.{sym}
use Rattle.cap_vet.proofs.nodes.found.found_at.Goals as goal

pub returns-in-Some : goal.returns-in-Some
returns-in-Some g c = c.object.ensures _ _ _ (c.in-Some.ensures.target _ c.word.ensures (sym c.len.ensures))
