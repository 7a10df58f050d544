use Rattle.cap_spec.proofs.ProofNames.{append_assoc, ◌++◌}
use Rattle.cap_text.proofs.Writing.{stopped_more, stopped_then, wrote_then}
use Rattle.cap_text.specs.DifferenceLines.{difference_text}
use Rattle.cap_run.specs.Differing.{explained_lines}
use Rattle.cap_run.proofs.engines.differing.write_difference_lines.Goals as goal

pub returns-in-Ok : goal.returns-in-Ok
returns-in-Ok g c = λ words a h before text wrote.
    let m = g.M.Segments.segments c.args.message.now in
    let line = difference_text c.args.number c.args.difference.now in
    let more = explained_lines m c.args.start c.args.difference.now h in
    let both = wrote_then g.O.ByteOut before c.args.out.now c.write_difference.new.out text line wrote c.in-Ok.ensures in
    rw (← append_assoc text line more) (c.write_explained.ensures words a h before (text ++ line) both)

pub returns-in-Err : goal.returns-in-Err
returns-in-Err g c = λ words a h before text wrote.
    let m = g.M.Segments.segments c.args.message.now in
    let line = difference_text c.args.number c.args.difference.now in
    let more = explained_lines m c.args.start c.args.difference.now h in
    stopped_then g.O.ByteOut before c.args.out.now c.write_difference.new.out c.in-Err.fault text (line ++ more) wrote
    (stopped_more g.O.ByteOut c.args.out.now c.write_difference.new.out c.in-Err.fault line more c.in-Err.ensures)
