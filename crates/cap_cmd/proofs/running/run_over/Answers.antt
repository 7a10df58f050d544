use Rattle.cap_cmd.proofs.running.run_over.Goals as goal

pub returns-in-Segments : goal.returns-in-Segments
returns-in-Segments g c = rw c.in-Segments.is (record {
  last = c.run_segments_with-answer.new.source;
  answer = c.run_segments_with-answer.result;
  does = c.run_segments_with-answer.ensures;
  exited = c.report_run.ensures;
})

pub returns-in-Vet : goal.returns-in-Vet
returns-in-Vet g c = rw c.in-Vet.is c.vet-status.ensures

pub returns-in-Dump : goal.returns-in-Dump
returns-in-Dump g c = rw c.in-Dump.is c.under.ensures

pub returns-in-Get : goal.returns-in-Get
returns-in-Get g c = rw c.in-Get.is c.get-status.ensures

pub returns-in-Check : goal.returns-in-Check
returns-in-Check g c = rw c.in-Check.is c.under-in-Check.ensures

pub returns-in-Canon : goal.returns-in-Canon
returns-in-Canon g c = rw c.in-Canon.is c.canon.ensures

pub returns-in-Pack : goal.returns-in-Pack
returns-in-Pack g c = rw c.in-Pack.is c.pack.ensures

pub returns-in-Unpack : goal.returns-in-Unpack
returns-in-Unpack g c = rw c.in-Unpack.is c.unpack.ensures

pub returns-in-Under : goal.returns-in-Under
returns-in-Under g c = rw c.in-Under.is c.under-in-Under.ensures

pub returns : goal.returns
returns g c = rw c.in-One.is c.one.ensures
