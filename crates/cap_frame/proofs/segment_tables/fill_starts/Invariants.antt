use Rattle.cap_frame.proofs.Starts.{StartsSoFar}
use Rattle.cap_frame.proofs.segment_tables.fill_starts.Given as goal

abbrev pub invariant-segments : goal.invariant-segments
invariant-segments l = StartsSoFar l.sizes l.size-index l.at l.starts.items
