use Rattle.cap_cmd.proofs.running.Course.explain_json.Goals as goal

pub returns-then-exclusive : goal.returns-then-exclusive
returns-then-exclusive g c = rw c.if-exclusive.true (record {
  last = c.run_explain_exclusive_json-answer.new.source;
  answer = c.run_explain_exclusive_json-answer.result;
  does = c.run_explain_exclusive_json-answer.ensures;
  exited = c.report_explained.ensures;
})

pub returns-else-exclusive : goal.returns-else-exclusive
returns-else-exclusive g c = rw c.if-exclusive.false (record {
  last = c.run_explain_json-answer.new.source;
  answer = c.run_explain_json-answer.result;
  does = c.run_explain_json-answer.ensures;
  exited = c.report_explained-else-exclusive.ensures;
})
