use Rattle.cap_spec.proofs.ProofNames.{rules}
use Rattle.cap_explain.proofs.Places.{no_segment, no_word}
use Rattle.cap_explain.proofs.words.word_of.Goals.{then-s-count-via-else-s-count+then-w-from}
use Rattle.cap_explain.proofs.words.word_of.Goals.{then-s-count-via-then-s-count}
use Rattle.cap_explain.proofs.words.word_of.Goals as goal

pub returns-then-s-count : goal.returns-then-s-count
returns-then-s-count g c = search (rules, then-s-count-via-then-s-count, no_segment, then-s-count-via-else-s-count+then-w-from, no_word)
