use Rattle.std.proofs.Common.{ap, subst, sym, ◌∙◌}
use Rattle.cap_cmd.specs.Jobs.{GivesOutput}
use Rattle.cap_cmd.proofs.running.Course.pack.Goals as goal

pub returns : goal.returns
returns g c =
    let new = c.new-sink.ensures in
    let first = c.new-sink.result in
    let last = c.run_pack_with-answer.new.sink in
    record {
      last = c.run_pack_with-answer.new.source;
      answer = c.run_pack_with-answer.result;
      does = record {
        begun = first;
        ended = last;
        begins = record {
          empty = new.empty;
          taken = new.taken;
          closed = new.closed;
          broken = new.broken;
          failures = new.shows_failures first ∙ ap (λ o. g.O.ByteOut.failures o) new.output;
        };
        puts = c.run_pack_with-answer.ensures;
        gives = subst (GivesOutput g.O.ByteOut _ last) (sym c.into_inner.ensures)
            (record { taken = new.shows_taken last; broken = new.when_broken last; failures = new.shows_failures last });
      };
      exited = c.report_transcode.ensures;
    }
