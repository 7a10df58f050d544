-- Each number of the table is one more size.
use Rattle.cap_spec.proofs.ProofNames.{length-append}
use Rattle.cap_spec.proofs.ProofNames.{take_rest, rules}
use Rattle.cap_words.proofs.Buffered.{bytes_small}
use Rattle.cap_frame.proofs.Cuts.{words_all}
use Rattle.cap_frame.proofs.Halves.{more_given}
use Rattle.cap_frame.proofs.framed.fill_sizes.Goals as goal

pub sizes-preserved : goal.sizes-preserved
sizes-preserved c = search (rules, words_all, take_rest, more_given, bytes_small, length-append)
