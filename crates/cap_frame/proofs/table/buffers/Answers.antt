use Rattle.cap_spec.proofs.ProofNames.{arith, common_steps}
use Rattle.std.proofs.Common.{vec_capacity}
use Rattle.std.proofs.lemmas.List.{take_more}
use Rattle.cap_frame.proofs.Contents.{buffers_more}
use Rattle.cap_frame.proofs.table.buffers.Goals as goal

pub sizes-preserved : goal.sizes-preserved
sizes-preserved c = grind (arith, common_steps, buffers_more, vec_capacity, take_more)
