use Rattle.cap_cmd.proofs.running.Course.vet.Goals as goal

pub returns-then-exclusive : goal.returns-then-exclusive
returns-then-exclusive g c = rw c.if-exclusive.true (record {
  last = c.run_vet_exclusive_with-answer.new.source;
  answer = c.run_vet_exclusive_with-answer.result;
  does = c.run_vet_exclusive_with-answer.ensures;
  exited = c.report_run.ensures;
})

pub returns-else-exclusive : goal.returns-else-exclusive
returns-else-exclusive g c = rw c.if-exclusive.false (record {
  last = c.run_vet_with-answer.new.source;
  answer = c.run_vet_with-answer.result;
  does = c.run_vet_with-answer.ensures;
  exited = c.report_run-else-exclusive.ensures;
})
