use Rattle.std.proofs.lemmas.List.{take_rest}
use Rattle.cap_words.proofs.Turns.{filled, filled_within}
use Rattle.cap_pack.proofs.BufferedBytes.{unpacks_between}
use Rattle.cap_pack.proofs.buffered.unpack.Goals as goal

pub loop-done-preserved : goal.loop-done-preserved
loop-done-preserved c =
    let far = c.loop-done.invariant in
    let next = c.group-next.ensures.unpacks in
    unpacks_between c.args.zeros c.args.plain c.args.from.now c.loop-done.out _ _ c.group-next.new.out c.loop-done.done c.group-next.result far next
    c.loop-done-test.true c.if-done-eq0.true
    (take_rest c.args.from.now c.loop-done.done.read) (filled _ _ _ far.fits next.fits) (filled_within _ _ _ far.fits next.fits)
