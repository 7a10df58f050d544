use Rattle.cap_spec.proofs.ProofNames.{arith, refl, outline_text}
use Rattle.cap_frame.specs.Limit.{limit_of}
use Rattle.cap_frame.specs.Outlines.{root_in, sizes_in}
use Rattle.cap_text.proofs.SegmentLines.{text_of_outline}
use Rattle.cap_run.specs.declared.engines.stream.Counted.TheVariants.{Accepted}
use Rattle.cap_run.proofs.Streams.{reads_one}
use Rattle.cap_run.proofs.engines.segments.SegmentsEngineEngine.print_next.Goals as goal

pub returns-in-Ok-clause-some : goal.returns-in-Ok-clause-some
returns-in-Ok-clause-some g c =
    let outline = c.read_outline.new.outline in
    let r = c.in-Ok-true.ensures.read.message (cc) in (
      record { message = r.0; text = outline_text c.args.number (sizes_in outline) (root_in outline); counted = Accepted },
      refl,
      (text_of_outline c.args.number outline r.0 r.2, refl),
      reads_one g.S.WordSource (limit_of c.args.limit) c.args.source.now c.read_outline.new.source r.0 r.1 c.in-Ok-true.ensures.read.next.works,
      c.in-Ok.ensures,
      refl,
      omega arith,
    )

pub returns-in-Err-write_segments-clause-err : goal.returns-in-Err-write_segments-clause-err
returns-in-Err-write_segments-clause-err g c =
    let outline = c.read_outline.new.outline in
    let r = c.in-Ok-true.ensures.read.message (cc) in (
      record { message = r.0; text = outline_text c.args.number (sizes_in outline) (root_in outline); counted = Accepted },
      (text_of_outline c.args.number outline r.0 r.2, refl),
      reads_one g.S.WordSource (limit_of c.args.limit) c.args.source.now c.read_outline.new.source r.0 r.1 c.in-Ok-true.ensures.read.next.works,
      c.in-Err-write_segments.ensures,
    )
