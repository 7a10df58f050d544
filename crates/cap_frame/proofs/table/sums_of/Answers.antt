use Rattle.cap_spec.proofs.ProofNames.{rules}
use Rattle.cap_frame.proofs.TablesLeft.{sizes_sum}
use Rattle.cap_frame.proofs.table.sums_of.Goals as goal

pub overflow_add-result : goal.overflow_add-result
overflow_add-result c = search (rules, sizes_sum)

pub overflow_mul-result : goal.overflow_mul-result
overflow_mul-result c = search (rules, sizes_sum)
