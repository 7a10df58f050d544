use Rattle.cap_spec.proofs.ProofNames.{append-nil, nil_from_length, rules}
use Rattle.cap_canon.proofs.stack.go_on.Goals as goal

pub returns-then-advance : goal.returns-then-advance
returns-then-advance g c = search (rules, append-nil)

pub returns-in-Some-pop : goal.returns-in-Some-pop
returns-in-Some-pop g c = search (rules, append-nil)

pub returns-in-None-pop : goal.returns-in-None-pop
returns-in-None-pop g c = search (rules, nil_from_length)
