-- What is known of the words of the source decides the answer.
use Rattle.cap_frame.specs.Limit.{limit_of}
use Rattle.cap_run.proofs.Settling.{settled}
use Rattle.cap_run.proofs.engines.stream.print_all.Goals as goal

pub returns-clause-reported : goal.returns-clause-reported
returns-clause-reported g c =
    let e = c.print_each.ensures in
    record {
      ok = e.ok;
      err = e.err;
      whole = λ own ms.
          settled g.S.WordSource g.O.ByteOut (g.E.Engine.counts c.args.engine.now) (g.E.Engine.reports c.args.engine.now) (limit_of c.args.settings.now.size) c.args.settings.now.messages
          c.args.source.now c.print_each.new.source c.args.out.now c.print_each.new.out (g.E.Engine.allocates c.args.engine.now) c.print_each.result own ms e.ok e.err;
    }
