use Rattle.cap_spec.proofs.ProofNames.{rules}
use Rattle.cap_walk.proofs.Runs.{rest_of_elements, rest_of_last, rest_of_row}
use Rattle.cap_walk.proofs.pointer_run.PointerRun.advance.Goals as goal

pub returns-then-self-gt1 : goal.returns-then-self-gt1
returns-then-self-gt1 c = search (rules, rest_of_row)

pub returns-then-self-gt0 : goal.returns-then-self-gt0
returns-then-self-gt0 c = search (rules, rest_of_elements)

pub returns : goal.returns
returns c = search (rules, rest_of_last)
