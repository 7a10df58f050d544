use Rattle.cap_spec.proofs.ProofNames.{codes, subst, sym, ◌++◌, IsWithin, refused, vet_text}
use Rattle.cap_explain.specs.Explaining.{overlap_explanation}
use Rattle.cap_explain.specs.ExplainedFaults.{earlier_lines}
use Rattle.cap_text.proofs.Writing.{stopped_more}
use Rattle.cap_run.proofs.Explaining.{overlap_text}
use Rattle.cap_run.proofs.engines.explain.write_both_pointers.Goals as goal

pub returns-in-Ok : goal.returns-in-Ok
returns-in-Ok g c = λ words a f.
    let m = g.M.Segments.segments c.args.message.now in
    let line = vet_text c.args.number (refused (codes "Overlap") c.args.segment c.args.word c.args.pointers) in
    let lines = line ++ overlap_explanation c.find.new.self m c.args.start c.args.segment c.args.word in
    let named = c.find.ensures.overlap words c.args.segment c.args.word (subst (IsWithin m words) (sym c.greatest_limits.ensures) a) f in
    let earlier = c.find_earlier-earlier.ensures.overlap words c.args.segment c.args.word
    (subst (IsWithin m words) (sym c.greatest_limits-2.ensures) a) f in (
      lines ++ earlier_lines c.find_earlier-earlier.new.self c.find_earlier-earlier.result,
      overlap_text m c.args.number c.args.start f c.find.new.self c.find_earlier-earlier.new.self c.find_earlier-earlier.result named earlier,
      c.write_earlier.ensures c.args.out.now lines c.in-Ok.ensures,
    )

pub returns-in-Err : goal.returns-in-Err
returns-in-Err g c = λ words a f.
    let m = g.M.Segments.segments c.args.message.now in
    let line = vet_text c.args.number (refused (codes "Overlap") c.args.segment c.args.word c.args.pointers) in
    let lines = line ++ overlap_explanation c.find.new.self m c.args.start c.args.segment c.args.word in
    let named = c.find.ensures.overlap words c.args.segment c.args.word (subst (IsWithin m words) (sym c.greatest_limits.ensures) a) f in
    let earlier = c.find_earlier-earlier.ensures.overlap words c.args.segment c.args.word
    (subst (IsWithin m words) (sym c.greatest_limits-2.ensures) a) f in (
      lines ++ earlier_lines c.find_earlier-earlier.new.self c.find_earlier-earlier.result,
      overlap_text m c.args.number c.args.start f c.find.new.self c.find_earlier-earlier.new.self c.find_earlier-earlier.result named earlier,
      stopped_more g.O.ByteOut c.args.out.now c.write_overlap_lines.new.out c.in-Err.fault lines
          (earlier_lines c.find_earlier-earlier.new.self c.find_earlier-earlier.result) c.in-Err.ensures,
    )
