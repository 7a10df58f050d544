use Rattle.cap_spec.proofs.ProofNames.{List, ap, refl, subst, sym, ℕ, ◌++◌}
use Rattle.cap_vet.specs.VetNames.{IsAccepted, depth_of, words_of}
use Rattle.cap_vet.specs.Vettings.{message_of, report_of}
use Rattle.cap_walk.specs.declared.report.Report.{Report}
use Rattle.cap_text.specs.JsonLines.{accepted_json}
use Rattle.cap_text.specs.Writing.{Writes}
use Rattle.cap_run.specs.Differing.{counted_by, difference_members}
use Rattle.cap_run.specs.ExplainedJson.{IsMember, ReportsAcceptedExplained, ReportsCanonicalExplained}
use Rattle.cap_run.specs.declared.engines.stream.Counted.TheVariants.{Accepted}
use Rattle.cap_run.proofs.Printing.{writes_text}
use Rattle.cap_run.proofs.engines.explained.ObjectPrinterAcceptedPrinter.print_accepted.Goals as goal

pub returns-then-self : goal.returns-then-self
returns-then-self g c = λ within t h.
    let m = g.M.Segments.segments (message_of c.args.vetted.now) in
    let r = report_of c.args.vetted.now in
    let n = c.args.number in
    let words = words_of c.args.limits in
    let depth = depth_of c.args.limits in
    let (found, is_found, member, is_member, written, writes, answers) = c.print_canonical_object.ensures in
    rw c.if-self.true (writes_text g.O.ByteOut
    (accepted_json n r.charge r.depth r.pointers r.caps (difference_members m found is_found ++ member)) (counted_by found)
    (ReportsCanonicalExplained words within depth n m) ⊥ c.args.out.now c.print_canonical_object.new.out written
    c.print_canonical_object.result (record {
      report = r;
      is_accepted = (t, h);
      found = found;
      is_found = is_found;
      member = member;
      is_member = is_member;
      line = refl;
      counts = refl;
    }) writes answers)

pub returns : goal.returns
returns g c = λ within t h.
    let m = g.M.Segments.segments (message_of c.args.vetted.now) in
    let r = c.report-report.result in
    let n = c.args.number in
    let words = words_of c.args.limits in
    let depth = depth_of c.args.limits in
    let w = c.write_accepted_object-written in
    let (member, is_member, writes) = subst (λ (m : List (List ℕ)). (member : List ℕ) × IsMember words depth m member
    × Writes g.O.ByteOut c.args.out.now w.new.out w.result (accepted_json n r.charge r.depth r.pointers r.caps member))
    (ap g.M.Segments.segments c.message.ensures.value) w.ensures in
    rw c.if-self.false (writes_text g.O.ByteOut (accepted_json n r.charge r.depth r.pointers r.caps member) Accepted
    (ReportsAcceptedExplained words within depth n m) ⊥ c.args.out.now w.new.out w.result c.after_text.result (record {
      report = r;
      is_accepted = subst (λ (r : Report). IsAccepted m within depth r) (sym c.report-report.ensures.value) (t, h);
      member = member;
      is_member = is_member;
      line = refl;
      counts = refl;
    }) writes c.after_text.ensures)
