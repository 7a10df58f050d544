use Rattle.std.proofs.Common.{vec_capacity}
use Rattle.cap_frame.proofs.Contents.{SegmentsSoFar}
use Rattle.cap_frame.proofs.table.read_contents.Given as goal

abbrev pub invariant-segments : goal.invariant-segments
invariant-segments g l = SegmentsSoFar g.S.WordSource (λ v. v.items) (λ v. vec_capacity v) l.initial.source l.source l.s l.segments.items l.sizes
