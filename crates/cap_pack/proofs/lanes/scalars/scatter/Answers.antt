use Rattle.cap_pack.proofs.Moving.{masks_spread, scattered_by_moves}
use Rattle.cap_pack.proofs.lanes.scalars.scatter.Goals as goal

pub moved_up-four-requires-clause-mask : goal.moved_up-four-requires-clause-mask
moved_up-four-requires-clause-mask c = (masks_spread c.args.tag c.masks_up-masks.result c.masks_up-masks.ensures).0

pub moved_up-two-requires-clause-mask : goal.moved_up-two-requires-clause-mask
moved_up-two-requires-clause-mask c = (masks_spread c.args.tag c.masks_up-masks.result c.masks_up-masks.ensures).1

pub moved_up-requires-clause-mask : goal.moved_up-requires-clause-mask
moved_up-requires-clause-mask c = (masks_spread c.args.tag c.masks_up-masks.result c.masks_up-masks.ensures).2

pub returns : goal.returns
returns c = scattered_by_moves c.args.bytes.now c.args.tag c.word_of.result c.kept_bytes-front.result c.moved_up-four.result c.moved_up-two.result
    c.moved_up.result c.masks_up-masks.result c.word_of.ensures.inverse c.kept_bytes-front.ensures c.masks_up-masks.ensures c.moved_up-four.ensures
    c.moved_up-two.ensures c.moved_up.ensures
