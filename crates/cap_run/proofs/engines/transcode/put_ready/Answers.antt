use Rattle.cap_spec.proofs.ProofNames.{arith, subst, sym, take, plain_words, rules}
use Rattle.cap_frame.specs.Putting.{Halts}
use Rattle.cap_frame.proofs.Putting.{halts_of}
use Rattle.cap_frame.proofs.Skips.{words_in}
use Rattle.cap_run.proofs.Handed.{copies_start, gives_ready}
use Rattle.cap_run.proofs.Handing.{fills_of}
use Rattle.cap_run.proofs.engines.transcode.put_ready.Goals as goal

pub returns-then-count-eq0-clause-ok : goal.returns-then-count-eq0-clause-ok
returns-then-count-eq0-clause-ok g c = search (rules, copies_start)

pub returns-in-Ok-clause-ok : goal.returns-in-Ok-clause-ok
returns-in-Ok-clause-ok g c =
    let e = c.ready-count.ensures in
    let buffer = c.ready-count.new.out in
    let ws = plain_words (take c.ready-count.result buffer) in
    let many = words_in c.ready-count.result buffer e.fits e.words.0 in
    record {
      own = ws;
      many = omega (arith, many);
      gives = gives_ready g.S.WordSource c.args.source.now c.ready-count.new.self c.ready-count.result buffer e.fits
          e.words.0 e.words.1 e.usable e.broken e.failures;
      fills = c.in-Ok.ensures.ok c.args.sink.now ws
          (fills_of g.K.WordSink c.args.sink.now c.put_bytes.new.self ws c.in_default.ensures.put c.in_default.ensures.ok);
    }

pub returns-in-Err-flush_sink-clause-err : goal.returns-in-Err-flush_sink-clause-err
returns-in-Err-flush_sink-clause-err g c =
    let e = c.ready-count.ensures in
    let buffer = c.ready-count.new.out in
    let ws = plain_words (take c.ready-count.result buffer) in
    let many = words_in c.ready-count.result buffer e.fits e.words.0 in
    let halts = c.in-Err-flush_sink.ensures.err c.args.sink.now ws
    (fills_of g.K.WordSink c.args.sink.now c.put_bytes.new.self ws c.in_default.ensures.put c.in_default.ensures.ok) in
    record {
      piece = ws;
      some = omega (arith, many);
      few = omega (arith, many, e.fits, c.ready-count.auto.out);
      gives = gives_ready g.S.WordSource c.args.source.now c.ready-count.new.self c.ready-count.result buffer e.fits
          e.words.0 e.words.1 e.usable e.broken e.failures;
      halts = subst (Halts g.K.WordSink c.args.sink.now c.flush_sink.new.sink ws) (sym c.output_fault-in-Err-flush_sink.ensures) halts;
    }

pub returns-in-Err-clause-err : goal.returns-in-Err-clause-err
returns-in-Err-clause-err g c = search (rules, words_in, halts_of, gives_ready)
