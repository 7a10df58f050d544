use Rattle.cap_spec.proofs.ProofNames.{rules}
use Rattle.cap_frame.proofs.Skips.{words_in}
use Rattle.cap_frame.proofs.skipping.skip_some.Goals as goal

pub returns-then-count-gt0-clause-some : goal.returns-then-count-gt0-clause-some
returns-then-count-gt0-clause-some g c = search (rules, words_in c.ready-count.result c.ready-count.new.out c.ready-count.ensures.fits c.ready-count.ensures.words.0)

pub returns-then-count-gt0-clause-ok : goal.returns-then-count-gt0-clause-ok
returns-then-count-gt0-clause-ok g c = search (rules, words_in)

pub returns-then-count-gt0-clause-reads : goal.returns-then-count-gt0-clause-reads
returns-then-count-gt0-clause-reads g c = c.ready-count.ensures.reads
