use Rattle.std.proofs.Common.{arith, inr, length, length-take-le, take, ◌*◌, ◌≡◌}
use Rattle.cap_pack.proofs.BufferedBytes.{words_appended}
use Rattle.cap_pack.proofs.unpacker.UnpackerWordSource.append.Goals as goal

pub returns-clause-words : goal.returns-clause-words
returns-clause-words g c =
    let s = c.args.self.now in
    let n = c.append_words-words.result in
    let e = c.append_words-words.ensures in
    let held = c.held.result.now in
    let long : length (take (8 * n) held) ≡ 8 * n = length-take-le (8 * n) held e.held in
    let given = words_appended s.phase _ _ held s.zeros s.plain _ n s.bytes.read _ c.in-Open.is (omega arith) (omega (arith, e.within)) e.held e.bytes
    (omega arith) (omega (arith, c.saturating_add-self.ensures)) (rw c.held.ensures.held c.skip.ensures.bytes) in
    (take (8 * n) held, e.appended, long, given.0, given.1)

pub returns-clause-usable : goal.returns-clause-usable
returns-clause-usable g c = inr (rw c.in-Open.is (c.held.ensures.usable (omega (arith, c.append_words-words.ensures.held))))
