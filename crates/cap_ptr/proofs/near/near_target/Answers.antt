use Rattle.std.proofs.Common.{rules}
use Rattle.cap_ptr.proofs.NearObjects.{row_target}
use Rattle.cap_ptr.proofs.near.near_target.Goals as goal

pub returns-clause-target : goal.returns-clause-target
returns-clause-target c = λ m has len.
    rw c.from.ensures (row_target m c.args.segment c.args.at c.args.word c.in_ok-row.row _ (c.in_ok-row.ensures.row m c.args.segment has len)
    (c.plain_shape.ensures 0))

pub returns-in_err-row-clause-none : goal.returns-in_err-row-clause-none
returns-in_err-row-clause-none c = rw c.from_residual.ensures (λ m r has len f. c.in_err-row.ensures.none m c.args.segment r has len f)

pub returns-clause-here : goal.returns-clause-here
returns-clause-here c = search rules
