use Rattle.std.proofs.Common.{subst, sym, ◌∙◌}
use Rattle.cap_frame.specs.Putting.{Blames}
use Rattle.cap_run.proofs.Making.{made_spoiled}
use Rattle.cap_run.proofs.Transcoding.{blames_of}
use Rattle.cap_run.proofs.engines.canon.make_copies.Goals as goal

pub returns-in-Err : goal.returns-in-Err
returns-in-Err g c =
    let blames = blames_of g.K.WordSink c.put_copies-messages.new.sink c.finish.new.self c.finish.result c.in-Err.fault
    c.in-Err.is c.finish.ensures.device c.finish.ensures.memory c.finish.ensures.was_broken in
    made_spoiled c.put_copies-messages.result.1
    (sym c.without_fault.ensures ∙ c.if-without_fault.true) c.put_copies-messages.ensures c.in-Err.ensures.err
    (subst (Blames g.K.WordSink c.put_copies-messages.new.sink c.finish.new.self) (sym c.output_fault.ensures) blames)
