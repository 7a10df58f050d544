use Rattle.cap_spec.proofs.ProofNames.{arith, drop, segment_lines}
use Rattle.cap_spec.proofs.ProofNames.{common_steps}
use Rattle.cap_frame.specs.Outlines.{sizes_in}
use Rattle.cap_text.proofs.Nodes.{lines_stop}
use Rattle.cap_text.proofs.Paging.{added_line}
use Rattle.cap_text.proofs.SegmentLines.{lines_step}
use Rattle.cap_text.proofs.segments.put_segment_lines.Goals as goal

pub returns-in-Err : goal.returns-in-Err
returns-in-Err g c =
    lines_stop g.O.ByteOut (c.args.out.now, c.args.page.now) (c.loop-s.out, c.loop-s.page) (c.make_space.new.out, c.make_space.new.page) c.in-Err.fault
    (segment_lines 0 (sizes_in c.args.outline.now))
    (segment_lines c.loop-s.s (drop c.loop-s.s (sizes_in c.args.outline.now))) c.loop-s.invariant
    c.in-Err.ensures.adds

pub loop-s-preserved : goal.loop-s-preserved
loop-s-preserved g c = grind (arith, common_steps, lines_step, added_line)
