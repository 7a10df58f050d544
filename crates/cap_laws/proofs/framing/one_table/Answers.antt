use Rattle.cap_spec.proofs.Frames.Framing.{same_table}
use Rattle.cap_laws.proofs.framing.one_table.Goals as goal

pub returns : goal.returns
returns c = same_table
