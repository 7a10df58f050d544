use Rattle.cap_spec.proofs.ProofNames.{drop, segment_lines}
use Rattle.cap_frame.specs.Outlines.{sizes_in}
use Rattle.cap_text.proofs.Paging.{Left}
use Rattle.cap_text.proofs.segments.put_segment_lines.Given as goal

abbrev pub invariant-loop-s : goal.invariant-loop-s
invariant-loop-s g l =
    Left g.O.ByteOut (l.initial.out, l.initial.page) (l.out, l.page)
    (segment_lines 0 (sizes_in l.outline)) (segment_lines l.s (drop l.s (sizes_in l.outline)))
