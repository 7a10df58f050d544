use Rattle.cap_spec.proofs.ProofNames.{rules}
use Rattle.std.proofs.Common.{arith}
use Rattle.cap_frame.proofs.Contents.{words_more, words_stop}
use Rattle.cap_frame.proofs.Taking.{reads_both}
use Rattle.cap_frame.proofs.table.read_words.Goals as goal

pub returns-in-Err-clause-err : goal.returns-in-Err-clause-err
returns-in-Err-clause-err g c =
    words_stop g.S.WordSource c.args.source.now c.words.source c.next_word.new.source c.words.words.items c.words.counter c.args.size c.in-Err.fault
    c.words-test.true c.words.invariant.far c.in-Err.ensures.err

pub words-preserved : goal.words-preserved
words-preserved g c = record {
  far = words_more g.S.WordSource c.args.source.now c.words.source c.next_word.new.source c.words.words.items c.push_reserved.new.self.items c.words.counter
      c.in-Ok.word c.words.invariant.far c.in-Ok.ensures.ok c.next_word.ensures.reads c.in-Ok.ensures.works c.push_reserved.ensures.items;
  fits = let h = c.push_reserved.ensures.capacity in let i = c.words.invariant.fits in omega arith;
}

pub returns-in-Err-clause-reads : goal.returns-in-Err-clause-reads
returns-in-Err-clause-reads g c = search (rules, reads_both)
