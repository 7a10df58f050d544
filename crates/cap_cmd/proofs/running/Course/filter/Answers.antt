use Rattle.std.proofs.Common.{sym}
use Rattle.cap_cmd.proofs.running.Course.filter.Goals as goal

pub returns : goal.returns
returns g c = (
  c.run_filter-answer.new.log,
  record {
    last = c.run_filter-answer.new.source;
    answer = c.run_filter-answer.result;
    does = c.run_filter-answer.ensures;
    exited = rw (sym c.position.ensures) c.report_guessed.ensures;
  },
)
