use Rattle.std.proofs.Common.{[], subst, sym, ◌∷◌}
use Rattle.cap_frame.specs.Putting.{Halts}
use Rattle.cap_run.proofs.Handing.{fills_of}
use Rattle.cap_run.proofs.engines.transcode.put_word.Goals as goal

pub returns-in-Ok-clause-ok : goal.returns-in-Ok-clause-ok
returns-in-Ok-clause-ok g c =
    c.in-Ok.ensures.ok c.args.sink.now (c.args.word ∷ [])
    (fills_of g.K.WordSink c.args.sink.now c.put.new.self (c.args.word ∷ []) c.in_default.ensures.put c.in_default.ensures.ok)

pub returns-in-Err-flush_sink-clause-err : goal.returns-in-Err-flush_sink-clause-err
returns-in-Err-flush_sink-clause-err g c =
    let halts = c.in-Err-flush_sink.ensures.err c.args.sink.now (c.args.word ∷ [])
    (fills_of g.K.WordSink c.args.sink.now c.put.new.self (c.args.word ∷ []) c.in_default.ensures.put c.in_default.ensures.ok) in
    subst (Halts g.K.WordSink c.args.sink.now c.flush_sink.new.sink (c.args.word ∷ [])) (sym c.output_fault-in-Err-flush_sink.ensures) halts
