use Rattle.std.proofs.Common.{take, vec_capacity}
use Rattle.cap_frame.specs.Buffers.{AreBuffers}
use Rattle.cap_frame.proofs.table.buffers.Given as goal

abbrev pub invariant-sizes : goal.invariant-sizes
invariant-sizes l = AreBuffers (λ v. v.items) (λ v. vec_capacity v) l.buffers.items (take l.size-index l.sizes)
