use Rattle.cap_spec.proofs.ProofNames.{refl}
use Rattle.cap_spec.specs.Texts.{accepted}
use Rattle.cap_walk.specs.Limits.{depth_of}
use Rattle.cap_vet.specs.Vettings.{message_of, report_of}
use Rattle.cap_text.specs.JsonLines.{verdict_json}
use Rattle.cap_run.specs.JsonReports.{ReportsAcceptedJson}
use Rattle.cap_run.specs.declared.engines.stream.Counted.TheVariants.{Accepted}
use Rattle.cap_run.proofs.Printing.{writes_text}
use Rattle.cap_run.proofs.engines.json.NumbersPrinterAcceptedPrinter.print_accepted.Goals as goal

pub returns : goal.returns
returns g c = λ words t h.
    let depth = depth_of c.args._limits in
    let m = g.M.Segments.segments (message_of c.args.vetted.now) in
    let n = c.args.number in
    let r = c.report.result in
    writes_text g.O.ByteOut (verdict_json n (accepted r.charge r.depth r.pointers r.caps)) Accepted (ReportsAcceptedJson words depth n m) ⊥
    c.args.out.now c.write_accepted_json-written.new.out c.write_accepted_json-written.result c.after_text.result
    (record { report = report_of c.args.vetted.now; is_accepted = (t, h); line = cc; counts = refl })
    c.write_accepted_json-written.ensures c.after_text.ensures
