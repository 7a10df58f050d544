use Rattle.std.proofs.Common.{rules}
use Rattle.cap_ptr.proofs.shapes.empty_elements.Goals as goal

pub returns-else-kind-eq1-clause-value : goal.returns-else-kind-eq1-clause-value
returns-else-kind-eq1-clause-value c = search rules
