-- The table is packed whole, and its text isn't empty.
use Rattle.std.proofs.Common.{length-take-le, rules}
use Rattle.cap_run.proofs.Passing.{packed_written, some_packed_table}
use Rattle.cap_run.proofs.engines.passing.write_packed_table.Goals as goal

pub write_first-requires : goal.write_first-requires
write_first-requires g c = search (rules, packed_written, length-take-le, some_packed_table)

pub returns : goal.returns
returns g c = search (rules, packed_written, length-take-le)
