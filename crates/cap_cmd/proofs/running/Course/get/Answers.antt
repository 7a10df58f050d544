use Rattle.cap_cmd.proofs.running.Course.get.Goals as goal

pub returns : goal.returns
returns g c = record {
  last = c.run_get_with-answer.new.source;
  answer = c.run_get_with-answer.result;
  does = rw c.as_slice-path.ensures.value at c.run_get_with-answer.ensures;
  exited = c.report_run.ensures;
}
