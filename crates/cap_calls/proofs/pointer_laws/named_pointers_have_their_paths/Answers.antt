use Rattle.cap_calls.proofs.NamedPointers.{difference_found_at, earlier_found, exclusive_found, vet_found}
use Rattle.cap_calls.proofs.pointer_laws.named_pointers_have_their_paths.Goals as goal

pub returns-clause-vet : goal.returns-clause-vet
returns-clause-vet c = vet_found

pub returns-clause-exclusive : goal.returns-clause-exclusive
returns-clause-exclusive c = exclusive_found

pub returns-clause-earlier : goal.returns-clause-earlier
returns-clause-earlier c = earlier_found

pub returns-clause-difference : goal.returns-clause-difference
returns-clause-difference c = difference_found_at
