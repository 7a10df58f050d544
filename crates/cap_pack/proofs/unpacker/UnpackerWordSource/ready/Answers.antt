use Rattle.cap_spec.proofs.Bytes.Lists.{all_take}
use Rattle.cap_spec.proofs.ProofNames.{arith, inr, take, ◌<◌, ◌∙◌, plain_words}
use Rattle.cap_words.proofs.Buffered.{bytes_small}
use Rattle.cap_pack.proofs.BufferedBytes.{given_for, some_words, words_buffered}
use Rattle.cap_pack.proofs.unpacker.UnpackerWordSource.ready.Goals as goal

pub returns-clause-words : goal.returns-clause-words
returns-clause-words g c =
    let s = c.args.self.now in
    let out = c.unpack-done.new.out in
    words_buffered s.phase _ _ c.held.result.now out s.zeros s.plain s.bytes.read _ c.unpack-done.result c.in-Open.is c.unpack-done.ensures
    (all_take (λ b. b < 256) c.unpack-done.result.written out (bytes_small out (λ i. c.type_inv.out i)))
    (omega arith) (omega (arith, c.saturating_add-self.ensures)) (rw c.held.ensures.held c.skip.ensures.bytes)

pub returns-clause-usable : goal.returns-clause-usable
returns-clause-usable g c =
    let s = c.args.self.now in
    let done = c.unpack-done.result in
    let u = c.unpack-done.ensures in
    let some = some_words done.written c.unpack-done.new.out u.fits u.whole (omega arith) in
    inr (rw c.in-Open.is (given_for s.zeros s.plain done.zeros done.plain c.held.result.now (plain_words (take done.written c.unpack-done.new.out))
    done.read _ u.gives some s.usable c.held.ensures.usable))

pub invariant_of-self : goal.invariant_of-self
invariant_of-self g c =
    let s = c.args.self.now in
    let done = c.unpack-done.result in
    let u = c.unpack-done.ensures in
    let some = some_words done.written c.unpack-done.new.out u.fits u.whole (omega arith) in
    record {
      usable = λ held.
          c.skip.ensures.broken
          ∙ given_for s.zeros s.plain done.zeros done.plain c.held.result.now (plain_words (take done.written c.unpack-done.new.out)) done.read _
          u.gives some s.usable c.held.ensures.usable;
    }
