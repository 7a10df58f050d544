use Rattle.std.proofs.Common.{Option, subst, sym}
use Rattle.cap_trace.specs.EarlierPointers.{ReportsEarlier, used_places}
use Rattle.cap_trace.specs.declared.earlier.EarlierPointer.{EarlierPointer}
use Rattle.cap_trace.proofs.Coming.{traceable_here}
use Rattle.cap_trace.proofs.Sharing.{earlier_reported, none_unused}
use Rattle.cap_trace.proofs.earlier.earlier_within.Goals as goal

pub returns-in_err-named : goal.returns-in_err-named
returns-in_err-named g c =
    subst (λ (r : Option EarlierPointer). ReportsEarlier (g.M.Segments.segments c.args.message.now) c.args.depth c.args.number r)
    (sym c.from_residual.ensures) (λ path a. absurd (c.seek.ensures.missing c.in_err-named.was path a))

pub returns-in_err-used : goal.returns-in_err-used
returns-in_err-used g c =
    subst (λ (r : Option EarlierPointer). ReportsEarlier (g.M.Segments.segments c.args.message.now) c.args.depth c.args.number r)
    (sym c.from_residual-in_err-used.ensures)
    (λ path a. none_unused _ c.args.depth c.args.number _ c.in_ok-named.named path c.in_ok-named.ensures.found a c.in_err-used.ensures)

pub first_using-requires-clause-traced : goal.first_using-requires-clause-traced
first_using-requires-clause-traced g c = (_, traceable_here _ c.args.depth c.args.number _ c.in_ok-named.named c.in_ok-named.ensures.found)

pub returns : goal.returns
returns g c =
    earlier_reported _ c.args.depth c.args.number _ c.in_ok-named.named (used_places c.in_ok-used.used) c.first_using.result
    c.in_ok-named.ensures.found c.in_ok-used.ensures c.first_using.ensures
