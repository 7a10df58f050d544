use Rattle.cap_cmd.proofs.running.Course.under.Goals as goal

pub returns-in-Vet : goal.returns-in-Vet
returns-in-Vet g c = rw c.in-Vet.is c.vet-status.ensures

pub returns-in-Explain : goal.returns-in-Explain
returns-in-Explain g c = rw c.in-Explain.is c.explain-status.ensures

pub returns-in-Filter : goal.returns-in-Filter
returns-in-Filter g c = rw c.in-Filter.is c.filter-status.ensures

pub returns-in-Dump : goal.returns-in-Dump
returns-in-Dump g c = rw c.in-Dump.is (record {
  last = c.run_dump_with-answer.new.source;
  answer = c.run_dump_with-answer.result;
  does = c.run_dump_with-answer.ensures;
  exited = c.report_run.ensures;
})

pub returns-in-Get : goal.returns-in-Get
returns-in-Get g c = rw c.in-Get.is c.get-status.ensures

pub returns-in-Check : goal.returns-in-Check
returns-in-Check g c = rw c.in-Check.is (record {
  last = c.run_check_with-answer.new.source;
  answer = c.run_check_with-answer.result;
  does = c.run_check_with-answer.ensures;
  exited = c.report_run-in-Check.ensures;
})

pub returns-in-Canon : goal.returns-in-Canon
returns-in-Canon g c = rw c.in-Canon.is c.canon.ensures

pub returns-in-Hash : goal.returns-in-Hash
returns-in-Hash g c = rw c.in-Hash.is c.hash-status.ensures

pub returns-in-Json : goal.returns-in-Json
returns-in-Json g c = rw c.in-Json.is c.json-status.ensures
