use Rattle.cap_spec.proofs.ProofNames.{ap, arith, drop, refl, sym, take, ◌*◌, ◌+◌, ◌||◌, ◌∙◌, plain_words}
use Rattle.cap_pack.proofs.PuttingEach.{no_word, put_all, put_more, put_stops, words_next}
use Rattle.cap_pack.proofs.packer.PackerWordSink.put_bytes.Goals as goal

pub returns-in-Err-clause-err : goal.returns-in-Err-clause-err
returns-in-Err-clause-err g c =
    let bytes = c.args.bytes.now in
    let count = c.read_words-count.result in
    let xs = take count c.read_words-count.new.words in
    let next = words_next bytes xs c.loop-done.done count c.loop-done.invariant.within (omega (arith, c.read_words-count.ensures.within))
    c.read_words-count.ensures.words in (
      refl,
      put_stops c.args.self.now c.loop-done.self c.put_piece.new.self _ _ (plain_words (drop (c.loop-done.done + 8 * count) bytes)) xs next
          c.loop-done.invariant.put c.in-Err.ensures.err,
    )

pub loop-done-preserved : goal.loop-done-preserved
loop-done-preserved g c =
    let bytes = c.args.bytes.now in
    let count = c.read_words-count.result in
    let xs = take count c.read_words-count.new.words in
    let next = words_next bytes xs c.loop-done.done count c.loop-done.invariant.within (omega (arith, c.read_words-count.ensures.within))
    c.read_words-count.ensures.words in
    let is_open = c.loop-done.invariant.put.is_open in
    record {
      within = omega (arith, c.read_words-count.ensures.within);
      put =
          put_more c.args.self.now c.loop-done.self c.put_piece.new.self _ _ (plain_words (drop (c.loop-done.done + 8 * count) bytes)) xs
          next c.loop-done.invariant.put
          c.in_default.ensures.ok (
            is_open,
            c.put_piece.ensures.closed ∙ is_open,
            ap (λ t. t || g.O.ByteOut.broken c.put_piece.new.self.output) c.put_piece.ensures.closed
                ∙ ap (λ t. c.loop-done.self.closed || t) c.in_default.ensures.works.0,
            c.in_default.ensures.works.1,
          );
      idle = λ h. c.in_default.ensures.idle h ∙ c.loop-done.invariant.idle (sym c.in_default.ensures.works.0 ∙ h);
    }

pub returns-clause-put : goal.returns-clause-put
returns-clause-put g c =
    put_all c.args.self.now c.loop-done.self _ _ (no_word c.args.bytes.now c.loop-done.done (omega arith)) c.loop-done.invariant.put
