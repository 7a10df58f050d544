use Rattle.cap_spec.proofs.ProofNames.{append-nil, rules}
use Rattle.cap_canon.proofs.Ranges.{range_none, range_one}
use Rattle.cap_canon.proofs.appending.append_row.Goals as goal

pub returns-then-count-eq0 : goal.returns-then-count-eq0
returns-then-count-eq0 g c = search (rules, range_none, append-nil)

pub returns-then-count-eq1 : goal.returns-then-count-eq1
returns-then-count-eq1 g c = search (rules, range_one)
