use Rattle.cap_spec.proofs.ProofNames.{◌∙◌}
use Rattle.cap_pack.proofs.Moving.{masks_squeeze, squeezed_by_moves}
use Rattle.cap_pack.proofs.lanes.scalars.squeezed.Goals as goal

pub moved_down-twice-requires-clause-mask : goal.moved_down-twice-requires-clause-mask
moved_down-twice-requires-clause-mask c = (masks_squeeze c.args.tag c.masks_down-masks.result c.masks_down-masks.ensures).0

pub moved_down-requires-clause-mask : goal.moved_down-requires-clause-mask
moved_down-requires-clause-mask c = (masks_squeeze c.args.tag c.masks_down-masks.result c.masks_down-masks.ensures).1

pub returns : goal.returns
returns c = c.bytes_of.ensures.value
    ∙ squeezed_by_moves c.args.word c.args.tag c.moved_down-once.result c.moved_down-twice.result c.moved_down.result c.masks_down-masks.result c.ranges.word.fits
    c.requires c.masks_down-masks.ensures c.moved_down-once.ensures c.moved_down-twice.ensures c.moved_down.ensures
