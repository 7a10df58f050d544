use Rattle.std.proofs.Common.{arith, refl}
use Rattle.cap_pack.specs.Places.{squeeze_row}
use Rattle.cap_pack.specs.declared.lanes.vectors.squeeze.TheConstants.{SQUEEZE}
use Rattle.cap_pack.proofs.Shuffles.{row_of}
use Rattle.cap_pack.proofs.lanes.vectors.squeeze.squeeze_places.Goals as goal

pub returns : goal.returns
returns c = row_of squeeze_row SQUEEZE refl c.args.tag (omega arith)
