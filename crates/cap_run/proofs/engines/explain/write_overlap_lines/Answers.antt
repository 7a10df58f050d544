use Rattle.cap_spec.proofs.ProofNames.{codes, refused, vet_text}
use Rattle.cap_explain.specs.Explaining.{overlap_explanation}
use Rattle.cap_text.proofs.Writing.{stopped_more}
use Rattle.cap_run.proofs.engines.explain.write_overlap_lines.Goals as goal

pub returns-in-Err : goal.returns-in-Err
returns-in-Err g c =
    let m = g.M.Segments.segments c.args.message.now in
    let line = vet_text c.args.number (refused (codes "Overlap") c.args.segment c.args.word c.args.pointers) in
    let lines = overlap_explanation c.args.path.now m c.args.start c.args.segment c.args.word in
    stopped_more g.O.ByteOut c.args.out.now c.write_overlap.new.out c.in-Err.fault line lines c.in-Err.ensures
