use Rattle.std.proofs.Common.{rules}
use Rattle.cap_canon.proofs.InOrder.{first_in_order, long_differs}
use Rattle.cap_canon.proofs.in_order.InOrderFirstTurn.begin.Goals as goal

pub returns-then-words-gt-LONGEST_COPY-clause-err : goal.returns-then-words-gt-LONGEST_COPY-clause-err
returns-then-words-gt-LONGEST_COPY-clause-err g c = search (rules, long_differs)

pub returns-clause-ok : goal.returns-clause-ok
returns-clause-ok g c = search (rules, first_in_order)
