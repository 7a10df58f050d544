use Rattle.std.proofs.Common.{rules}
use Rattle.cap_canon.proofs.Runs.{next_short, second_short}
use Rattle.cap_canon.proofs.run.CopyRun.advance.Goals as goal

pub overflow_add-self : goal.overflow_add-self
overflow_add-self c = search (rules, second_short)

pub overflow_add-self-then-self-gt1 : goal.overflow_add-self-then-self-gt1
overflow_add-self-then-self-gt1 c = search (rules, second_short)

pub overflow_add-self-then-self-gt0 : goal.overflow_add-self-then-self-gt0
overflow_add-self-then-self-gt0 c = search (rules, next_short)

pub overflow_add-self-then-self-gt0-2 : goal.overflow_add-self-then-self-gt0-2
overflow_add-self-then-self-gt0-2 c = search (rules, next_short)

pub overflow_add-self-then-self-gt0-3 : goal.overflow_add-self-then-self-gt0-3
overflow_add-self-then-self-gt0-3 c = search (rules, next_short)

pub overflow_add-self-then-self-gt0-4 : goal.overflow_add-self-then-self-gt0-4
overflow_add-self-then-self-gt0-4 c = search (rules, next_short)
