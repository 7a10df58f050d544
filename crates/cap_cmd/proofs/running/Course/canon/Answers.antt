use Rattle.cap_spec.proofs.ProofNames.{ap, subst, sym, ◌∙◌, append_known, plain_text}
use Rattle.cap_cmd.specs.Jobs.{GivesOutput}
use Rattle.cap_cmd.proofs.running.Course.canon.Goals as goal

pub returns : goal.returns
returns g c =
    let new = c.new-sink.ensures in
    let first = c.new-sink.result in
    let last = c.run_canon_with-answer.new.sink in
    record {
      last = c.run_canon_with-answer.new.source;
      answer = c.run_canon_with-answer.result;
      does = record {
        begun = first;
        ended = last;
        begins = record {
          empty = λ ws. new.holds_nothing first ws ∙ ap (λ o. append_known o (plain_text ws)) new.taken;
          taken = new.taken;
          closed = new.closed;
          broken = new.broken;
          failures = new.failures;
        };
        puts = c.run_canon_with-answer.ensures;
        gives = subst (GivesOutput g.O.ByteOut _ last) (sym c.into_inner.ensures)
            (record { taken = new.shows_taken last; broken = new.when_broken last; failures = new.shows_failures last });
      };
      exited = c.report_run.ensures;
    }
