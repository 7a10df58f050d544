-- Each number of the table adds to the sum.
use Rattle.cap_spec.proofs.ProofNames.{take_rest}
use Rattle.cap_spec.proofs.ProofNames.{rules}
use Rattle.cap_words.proofs.Buffered.{bytes_small}
use Rattle.cap_frame.proofs.Cuts.{words_all}
use Rattle.cap_frame.proofs.Halves.{more_total}
use Rattle.cap_frame.proofs.front.total_given.Goals as goal

pub sizes-preserved : goal.sizes-preserved
sizes-preserved c = search (rules, words_all, take_rest, more_total, bytes_small)
