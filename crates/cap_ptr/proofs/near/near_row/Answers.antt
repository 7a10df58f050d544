use Rattle.std.proofs.Common.{arith, rules}
use Rattle.cap_ptr.proofs.NearObjects.{pointers-plain, row_found}
use Rattle.cap_ptr.proofs.near.near_row.Goals as goal

pub returns-clause-row : goal.returns-clause-row
returns-clause-row c = λ m s has len.
    let parts = c.in_ok-own.ensures in
    row_found m s c.args.at c.args.word _ has c.if-word-eq0.false c.in_ok-start.ensures.some parts.pointers
    (omega (arith, parts.words)) (omega (arith, parts.few)) (omega arith)
    (omega (arith, len, c.if-pointers_start-pointer_count.false, c.from.ensures))

pub returns-clause-plain : goal.returns-clause-plain
returns-clause-plain c = pointers-plain c.args.word _ c.in_ok-own.ensures.pointers

pub returns-in_err-own-clause-none : goal.returns-in_err-own-clause-none
returns-in_err-own-clause-none c =
    rw c.from_residual.ensures (λ m s r has len f. c.in_err-own.ensures.none r.pointer_count f.pointers)

pub overflow_cast-result-2 : goal.overflow_cast-result-2
overflow_cast-result-2 c = search rules

pub overflow_cast-result-3 : goal.overflow_cast-result-3
overflow_cast-result-3 c = search rules
