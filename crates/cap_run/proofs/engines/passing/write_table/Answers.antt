use Rattle.std.proofs.Common.{rules}
use Rattle.cap_run.proofs.Passing.{some_table}
use Rattle.cap_run.proofs.engines.passing.write_table.Goals as goal

pub write_first-requires : goal.write_first-requires
write_first-requires g c = search (rules, some_table)
