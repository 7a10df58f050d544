-- The bytes are those of the words.
use Rattle.cap_spec.proofs.ProofNames.{arith}
use Rattle.cap_calls.proofs.OneSegments.{slice_bytes}
use Rattle.cap_calls.proofs.one_slice.OneSliceSegments.bytes_at.Goals as goal

pub returns : goal.returns
returns c =
    let bs = c.args.self.now.bytes.now in
    let part = slice_bytes bs c.words_at.result.now c.args.s c.args.start c.args.words (omega (arith, c.if-s-ne0.false))
    (omega (arith, c.if-end-self.false, c.from.ensures, c.from-2.ensures)) c.words_at.ensures.part c.words_at.ensures.text c.words_at.ensures.words in
    record { exist = part.exist; bytes = part.text; words = part.words }
