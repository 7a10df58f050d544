use Rattle.cap_spec.proofs.ProofNames.{drop, take, ◌*◌, ◌++◌, ◌≡◌, paired, plain_text}
use Rattle.cap_frame.specs.Numbers.{numbers_of}
use Rattle.cap_frame.proofs.writer.table_into.Given as goal

-- the words so far and those that are left are the table
abbrev pub invariant-table : goal.invariant-table
invariant-table g l =
    let numbers = numbers_of (g.M.Segments.segments l.message) in
    take (8 * l.w) l.table ++ plain_text (paired (drop (2 * l.w) numbers)) ≡ plain_text (paired numbers)
