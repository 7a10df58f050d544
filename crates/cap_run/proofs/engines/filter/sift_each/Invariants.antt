use Rattle.cap_frame.specs.Limit.{limit_of}
use Rattle.cap_run.specs.FilterSteps.{FilterReports, FilterAllocates}
use Rattle.cap_run.proofs.Sifting.{Sieving}
use Rattle.cap_run.proofs.engines.filter.sift_each.Given as goal

abbrev pub invariant-loop-number : goal.invariant-loop-number
invariant-loop-number g l =
    let v = l.filter in
    Sieving g.S.WordSource g.O.ByteOut g.E.ByteOut v.form (FilterReports v) (FilterAllocates v)
    (limit_of l.settings.size) l.fn.source l.source l.fn.out l.out l.fn.log l.log l.outcome l.number l.buffers.state.failed l.buffers.state.waits
