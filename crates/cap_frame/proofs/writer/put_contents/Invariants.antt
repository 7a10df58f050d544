use Rattle.cap_spec.proofs.ProofNames.{drop, joined}
use Rattle.cap_frame.proofs.Putting.{Leaves}
use Rattle.cap_frame.proofs.writer.put_contents.Given as goal

abbrev pub invariant-segments : goal.invariant-segments
invariant-segments g l = Leaves g.K.WordSink l.initial.sink l.sink (joined (g.M.Segments.segments l.message))
    (joined (drop l.s (g.M.Segments.segments l.message)))
