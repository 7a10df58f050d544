use Rattle.std.proofs.Common.{arith, refl}
use Rattle.cap_pack.specs.Moves.{spreads}
use Rattle.cap_pack.specs.declared.lanes.scalars.up.TheConstants.{UP}
use Rattle.cap_pack.proofs.Shuffles.{row_passes}
use Rattle.cap_pack.proofs.lanes.scalars.up.masks_up.Goals as goal

pub returns : goal.returns
returns c = row_passes spreads UP refl c.args.tag (omega arith)
