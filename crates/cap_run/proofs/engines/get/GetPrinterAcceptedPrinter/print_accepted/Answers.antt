use Rattle.cap_spec.proofs.ProofNames.{refl, get_text, node_at}
use Rattle.cap_walk.specs.Limits.{depth_of}
use Rattle.cap_vet.specs.Vettings.{message_of, report_of}
use Rattle.cap_text.specs.Writing.{Writes}
use Rattle.cap_run.specs.Vetting.{ReportsNode}
use Rattle.cap_run.specs.declared.engines.stream.Counted.TheVariants.{Accepted}
use Rattle.cap_run.proofs.FoundNodes.{node_reported}
use Rattle.cap_run.proofs.Printing.{writes_text}
use Rattle.cap_run.proofs.engines.get.GetPrinterAcceptedPrinter.print_accepted.Goals as goal

pub returns : goal.returns
returns g c = λ words t h.
    let depth = depth_of c.args._limits in
    let report = report_of c.args.vetted.now in
    let path = c.args.self.now.path.now in
    let texts = ReportsNode words depth path c.args.number (g.M.Segments.segments (message_of c.args.vetted.now)) in
    let written = c.write_node-written in
    writes_text g.O.ByteOut (get_text c.args.number (node_at t path)) Accepted texts ⊥
    c.args.out.now written.new.out written.result c.after_text.result
    (record { report = report; tree = t; is_report = h; lines = refl; counts = refl })
    (node_reported g.M.Segments (Writes g.O.ByteOut c.args.out.now written.new.out written.result) c.args.number
    (node_at t path) (message_of c.args.vetted.now) c.get.result written.ensures.found written.ensures.none
    c.get.ensures.message (c.get.ensures.node t report.charge report.depth h.within.denotes))
    c.after_text.ensures
