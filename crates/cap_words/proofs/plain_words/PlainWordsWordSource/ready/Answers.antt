use Rattle.std.proofs.Common.{arith, ◌/◌}
use Rattle.cap_words.proofs.Buffered.{ready_words}
use Rattle.cap_words.proofs.plain_words.PlainWordsWordSource.ready.Goals as goal

pub returns-clause-words : goal.returns-clause-words
returns-clause-words g c =
    let e = c.copy_words-count.ensures in
    ready_words _ _ _ c.held.result.now _ c.copy_words-count.result (c.copy_words-count.result / 8) _ _ c.in-Open.is e.bytes e.within e.words
    (omega arith) (omega (arith, c.saturating_add-self.ensures)) e.copied (rw c.held.ensures.held c.skip.ensures.bytes)
