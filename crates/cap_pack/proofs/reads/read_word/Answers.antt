use Rattle.std.proofs.Common.{arith}
use Rattle.cap_pack.proofs.Turns.{word_cut, word_taken}
use Rattle.cap_pack.proofs.reads.read_word.Goals as goal

pub returns-in-Ok-clause-word : goal.returns-in-Ok-clause-word
returns-in-Ok-clause-word g c = (c.read_whole.new.buf, c.in-Ok.ensures.took, word_taken (omega arith) c.word_of.ensures.value c.in-Ok.ensures.took)

pub returns-in-Err-clause-truncated : goal.returns-in-Err-clause-truncated
returns-in-Err-clause-truncated g c = λ byte is.
    let t = c.in-Err.ensures.truncated byte (cc) in
    (t.0, (t.1.0, t.1.1, t.1.2, word_cut (omega (arith, t.1.3)) t.1.1))
