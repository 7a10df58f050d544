use Rattle.std.proofs.Common.{arith, refl}
use Rattle.cap_pack.specs.Moves.{squeezes}
use Rattle.cap_pack.specs.declared.lanes.scalars.down.TheConstants.{DOWN}
use Rattle.cap_pack.proofs.Shuffles.{row_passes}
use Rattle.cap_pack.proofs.lanes.scalars.down.masks_down.Goals as goal

pub returns : goal.returns
returns c = row_passes squeezes DOWN refl c.args.tag (omega arith)
