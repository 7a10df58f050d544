use Rattle.std.proofs.Common.{sym}
use Rattle.cap_cmd.proofs.running.Course.json.Goals as goal

pub returns-then-exclusive : goal.returns-then-exclusive
returns-then-exclusive g c = rw (c.in-Vet.is, c.if-exclusive.true) (record {
  last = c.run_vet_exclusive_json-answer.new.source;
  answer = c.run_vet_exclusive_json-answer.result;
  does = c.run_vet_exclusive_json-answer.ensures;
  exited = c.report_run.ensures;
})

pub returns-else-exclusive : goal.returns-else-exclusive
returns-else-exclusive g c = rw (c.in-Vet.is, c.if-exclusive.false) (record {
  last = c.run_vet_json-answer.new.source;
  answer = c.run_vet_json-answer.result;
  does = c.run_vet_json-answer.ensures;
  exited = c.report_run-else-exclusive.ensures;
})

pub returns-in-Explain : goal.returns-in-Explain
returns-in-Explain g c = rw c.in-Explain.is c.explain_json.ensures

pub returns-in-Check : goal.returns-in-Check
returns-in-Check g c = rw c.in-Check.is (record {
  last = c.run_check_json-answer.new.source;
  answer = c.run_check_json-answer.result;
  does = c.run_check_json-answer.ensures;
  exited = c.report_run-in-Check.ensures;
})

pub returns-in-Hash : goal.returns-in-Hash
returns-in-Hash g c = rw c.in-Hash.is (record {
  last = c.run_hash_json-answer.new.source;
  answer = c.run_hash_json-answer.result;
  does = c.run_hash_json-answer.ensures;
  exited = rw (sym c.position.ensures) c.report_guessed.ensures;
})
