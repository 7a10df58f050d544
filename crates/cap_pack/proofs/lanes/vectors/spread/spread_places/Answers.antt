use Rattle.std.proofs.Common.{arith, refl}
use Rattle.cap_pack.specs.Places.{spread_row}
use Rattle.cap_pack.specs.declared.lanes.vectors.spread.TheConstants.{SPREAD}
use Rattle.cap_pack.proofs.Shuffles.{row_of}
use Rattle.cap_pack.proofs.lanes.vectors.spread.spread_places.Goals as goal

pub returns : goal.returns
returns c = row_of spread_row SPREAD refl c.args.tag (omega arith)
