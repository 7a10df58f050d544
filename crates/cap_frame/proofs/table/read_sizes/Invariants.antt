use Rattle.cap_frame.proofs.Tables.{TableSoFar}
use Rattle.cap_frame.proofs.table.read_sizes.Given as goal

abbrev pub invariant-table : goal.invariant-table
invariant-table g l = TableSoFar g.S.WordSource l.first l.counter l.initial.source l.source l.sizes.items
