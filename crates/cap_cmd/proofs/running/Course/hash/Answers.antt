use Rattle.std.proofs.Common.{sym}
use Rattle.cap_cmd.proofs.running.Course.hash.Goals as goal

pub returns-then-alone : goal.returns-then-alone
returns-then-alone g c = rw c.if-alone.true (record {
  last = c.run_digest_with-answer.new.source;
  answer = c.run_digest_with-answer.result;
  does = c.run_digest_with-answer.ensures;
  exited = rw (sym c.position.ensures) c.report_guessed.ensures;
})

pub returns-else-alone : goal.returns-else-alone
returns-else-alone g c = rw c.if-alone.false (record {
  last = c.run_hash_with-answer.new.source;
  answer = c.run_hash_with-answer.result;
  does = c.run_hash_with-answer.ensures;
  exited = rw (sym c.position-else-alone.ensures) c.report_guessed-else-alone.ensures;
})
