use Rattle.cap_spec.proofs.ProofNames.{rules}
use Rattle.cap_words.proofs.Turns.{filled_within, moved_more, read_more, rest_length}
use Rattle.cap_words.proofs.transfer.fill_rest.Goals as goal

pub loop-len-preserved : goal.loop-len-preserved
loop-len-preserved g c = search (rules, rest_length, filled_within, read_more, moved_more)
