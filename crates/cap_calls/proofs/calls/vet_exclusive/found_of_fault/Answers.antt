use Rattle.std.proofs.Common.{rules}
use Rattle.cap_calls.proofs.calls.vet_exclusive.found_of_fault.Goals as goal

pub returns-in-Overlap : goal.returns-in-Overlap
returns-in-Overlap c = search rules
