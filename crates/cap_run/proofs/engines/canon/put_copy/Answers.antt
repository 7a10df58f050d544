use Rattle.std.proofs.Common.{length-take-le, rules}
use Rattle.cap_vet.specs.VetNames.{depth_of, words_of}
use Rattle.cap_run.proofs.Demanding.{under_few}
use Rattle.cap_run.proofs.Making.{has_no_copy, stops_refused}
use Rattle.cap_run.proofs.engines.canon.put_copy.Goals as goal

pub returns-in-Err-canonical_over-clause-err : goal.returns-in-Err-canonical_over-clause-err
returns-in-Err-canonical_over-clause-err g c =
    search (rules, has_no_copy _ c.args.copy.now.items c.canonical_over.new.buffer.items c.in-Err-canonical_over.fault c.in-Err-canonical_over.ensures.reports)

pub returns-in-Err-clause-err : goal.returns-in-Err-clause-err
returns-in-Err-clause-err g c =
    let limits = c.args.limits in
    rw c.refused_by.ensures (stops_refused g.K.WordSink c.args.demands (words_of limits) (depth_of limits)
    (g.M.Segments.segments c.args.message.now) c.args.sink.now c.in-Err.refusal c.in-Err.ensures.err)

pub put_framed-requires : goal.put_framed-requires
put_framed-requires g c = search (rules, under_few, length-take-le)
