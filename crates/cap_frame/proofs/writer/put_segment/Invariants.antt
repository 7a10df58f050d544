use Rattle.cap_spec.proofs.ProofNames.{drop, segment_of}
use Rattle.cap_frame.proofs.Putting.{Leaves}
use Rattle.cap_frame.proofs.writer.put_segment.Given as goal

abbrev pub invariant-words : goal.invariant-words
invariant-words g l = Leaves g.K.WordSink l.initial.sink l.sink (segment_of (g.M.Segments.segments l.message) l.s)
    (drop l.w (segment_of (g.M.Segments.segments l.message) l.s))
