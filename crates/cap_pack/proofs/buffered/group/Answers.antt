use Rattle.std.proofs.lemmas.List.{take_rest}
use Rattle.cap_words.proofs.Turns.{filled, filled_within}
use Rattle.cap_pack.proofs.BufferedBytes.{unpacks_both}
use Rattle.cap_pack.proofs.buffered.group.Goals as goal

pub returns-clause-unpacks : goal.returns-clause-unpacks
returns-clause-unpacks c =
    let head = c.first-head.result in
    let more = c.run-more.result in
    let was = c.first-head.ensures.unpacks in
    let part = take_rest c.args.from.now head.read in
    unpacks_both 0 0 c.args.from.now c.first-head.new.out _ _ c.run-more.new.out head more was c.run-more.ensures part
    (filled _ _ _ was.fits c.run-more.ensures.fits) (filled_within _ _ _ was.fits c.run-more.ensures.fits)
