use Rattle.cap_spec.proofs.ProofNames.{rules}
use Rattle.cap_words.proofs.Turns.{moved_more, rest_length, write_more}
use Rattle.cap_words.proofs.transfer.write_all.Goals as goal

pub loop-done-preserved : goal.loop-done-preserved
loop-done-preserved g c = search (rules, rest_length, write_more, moved_more)
