use Rattle.cap_spec.proofs.ProofNames.{rules}
use Rattle.std.proofs.Common.{arith, length-take-le}
use Rattle.cap_frame.proofs.Contents.{words_stop}
use Rattle.cap_frame.proofs.Skips.{skipped_more, skipped_none}
use Rattle.cap_frame.proofs.Taking.{reads_both}
use Rattle.cap_frame.proofs.skipping.skip_words.Goals as goal

pub words-init : goal.words-init
words-init g c = record { few = omega arith; skipped = skipped_none g.S.WordSource c.args.source.now c.requires.usable }

pub words-preserved : goal.words-preserved
words-preserved g c = search (rules, length-take-le, skipped_more)

pub returns-in-Err-clause-err : goal.returns-in-Err-clause-err
returns-in-Err-clause-err g c =
    let w = c.words.invariant.skipped in
    words_stop g.S.WordSource c.args.source.now c.words.source c.skip_some.new.source w.own c.words.done c.args.many c.in-Err.fault c.words-test.true
    w.so_far c.in-Err.ensures.err

pub returns-in-Err-clause-reads : goal.returns-in-Err-clause-reads
returns-in-Err-clause-reads g c = search (rules, reads_both)
