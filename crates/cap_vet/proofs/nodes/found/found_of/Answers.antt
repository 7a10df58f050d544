use Rattle.cap_vet.proofs.Founds.{cap_found, null_found}
use Rattle.cap_vet.proofs.nodes.found.found_of.Goals as goal

pub returns-in-Null : goal.returns-in-Null
returns-in-Null c = λ m s w h f. null_found m s w _ h (rw c.in-Null.is at f)

pub returns-in-Cap : goal.returns-in-Cap
returns-in-Cap c = λ m s w h f. cap_found m s w _ _ h (rw c.in-Cap.is at f)

pub returns-in-Target : goal.returns-in-Target
returns-in-Target c = λ m s w h f. c.object.ensures m s w (rw c.in-Target.is at f)
