use Rattle.cap_spec.proofs.ProofNames.{drop, ◌*◌, ◌+◌, paired}
use Rattle.cap_frame.specs.Numbers.{numbers_of}
use Rattle.cap_frame.proofs.Putting.{Leaves}
use Rattle.cap_frame.proofs.writer.put_sizes.Given as goal

abbrev pub invariant-table : goal.invariant-table
invariant-table g l = Leaves g.K.WordSink l.initial.sink l.sink (paired (drop 2 (numbers_of (g.M.Segments.segments l.message))))
    (paired (drop (2 * l.w + 2) (numbers_of (g.M.Segments.segments l.message))))
