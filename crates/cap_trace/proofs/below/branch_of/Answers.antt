use Rattle.std.proofs.Common.{arith, inl, inr}
use Rattle.cap_trace.proofs.Objects.{pointers_steps, struct_steps, structs_empty, structs_steps}
use Rattle.cap_trace.proofs.below.branch_of.Goals as goal

pub returns-then-count-eq0-2-clause-words : goal.returns-then-count-eq0-2-clause-words
returns-then-count-eq0-2-clause-words c = λ m s w q tag f base level.
    structs_empty m s w q tag _ _ level (rw c.in-Structs.is at f)
    (elim c.then-count-eq0-2.either [ inl h ↦ inl h | inr h ↦ inr h.1 ]) base

pub returns-else-pointers-eq0-clause-steps : goal.returns-else-pointers-eq0-clause-steps
returns-else-pointers-eq0-clause-steps c = λ m s w q tag f.
    rw (c.row.ensures, c.from.ensures, c.from-in-Struct.ensures)
    (struct_steps m c.in-Struct.data_words c.in-Struct.pointers (rw c.in-Struct.is at f) (omega (arith, c.if-pointers-eq0.false)))

pub returns-else-count-eq0-clause-steps : goal.returns-else-count-eq0-clause-steps
returns-else-count-eq0-clause-steps c = λ m s w q tag f.
    rw c.row-in-Pointers.ensures
    (pointers_steps m c.in-Pointers.count (rw c.in-Pointers.is at f) (omega (arith, c.if-count-eq0.false)))

pub returns-else-pointers-eq0-2-clause-steps : goal.returns-else-pointers-eq0-2-clause-steps
returns-else-pointers-eq0-2-clause-steps c = λ m s w q tag f.
    rw c.row-in-Structs.ensures
    (structs_steps m c.in-Structs.words c.in-Structs.count c.in-Structs.data_words c.in-Structs.pointers (rw c.in-Structs.is at f)
    (omega (arith, c.if-count-eq0-2.false)))
