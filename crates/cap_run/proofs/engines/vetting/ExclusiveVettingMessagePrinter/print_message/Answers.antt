use Rattle.cap_spec.proofs.ProofNames.{List, ap, inl, inr, subst, ℕ, Tree}
use Rattle.cap_vet.specs.Exclusives.{vetted_of}
use Rattle.cap_vet.specs.VetNames.{words_under, depth_of, words_of, IsReport, message_of, report_of}
use Rattle.cap_run.specs.Demanding.{OrOverlap, OrRefused}
use Rattle.cap_run.specs.RunNames.{AllocatesIn, AllocatesMarks, WritesOneOf}
use Rattle.cap_run.specs.declared.engines.stream.Counted.TheVariants.{Refused}
use Rattle.cap_run.proofs.Printing.{writes_as, writes_text}
use Rattle.cap_run.proofs.engines.vetting.ExclusiveVettingMessagePrinter.print_message.Goals as goal

pub returns-in-Ok : goal.returns-in-Ok
returns-in-Ok g c =
    let v = c.args.self.now in
    let m = g.M.Segments.segments c.args.message.now in
    let words = words_of v.limits in
    let within = words_under v.demands m words in
    let depth = depth_of v.limits in
    let texts = g.A.AcceptedPrinter.reports v.accepted c.args.before words in
    let allocates = g.A.AcceptedPrinter.allocates v.accepted in
    let (met, disjoint) = c.in-Ok.ensures.ok in
    let u = vetted_of c.in-Ok.exclusive in
    let own = subst (λ u. (w : ℕ) (t : Tree) → IsReport (g.M.Segments.segments (message_of u)) w depth (report_of u) t
    → WritesOneOf g.O.ByteOut (texts w depth c.args.number (g.M.Segments.segments (message_of u)))
    (allocates w depth (g.M.Segments.segments (message_of u)))
    c.args.out.now c.print_accepted.new.out c.print_accepted.result) c.into_vetted-vetted.ensures.value c.print_accepted.ensures in
    let reported = subst (λ (m : List (List ℕ)). (w : ℕ) (t : Tree) → IsReport m w depth (report_of u) t
    → WritesOneOf g.O.ByteOut (texts w depth c.args.number m) (allocates w depth m)
    c.args.out.now c.print_accepted.new.out c.print_accepted.result)
    (ap g.M.Segments.segments c.in-Ok.ensures.message) own in
    writes_as g.O.ByteOut (texts within depth c.args.number m)
    (OrRefused v.demands (g.R.RefusalPrinter.refuses v.refused) (OrOverlap (g.R.RefusalPrinter.overlaps v.refused) texts) words depth
    c.args.number m)
    (allocates within depth m) (AllocatesIn v.demands AllocatesMarks v.limits m)
    c.args.out.now c.print_accepted.new.out c.print_accepted.result
    (λ text counted e. inl (met.1.strict, inl (disjoint, e))) (λ w. (met.1.strict, (report_of u, met.0)))
    (reported within met.0.0 met.0.1)

pub returns-in-Err-Refused : goal.returns-in-Err-Refused
returns-in-Err-Refused g c =
    let v = c.args.self.now in
    let m = g.M.Segments.segments c.args.message.now in
    let words = words_of v.limits in
    let depth = depth_of v.limits in
    let fault = rw c.in-Err-Refused.field-0-is at c.in-Err-Refused.ensures.err in
    let (text, is_text, written) = c.write_refused-written.ensures v.demands words fault in
    writes_text g.O.ByteOut text Refused
    (OrRefused v.demands (g.R.RefusalPrinter.refuses v.refused) (OrOverlap (g.R.RefusalPrinter.overlaps v.refused)
    (g.A.AcceptedPrinter.reports v.accepted c.args.before words)) words depth c.args.number m)
    (AllocatesIn v.demands AllocatesMarks v.limits m)
    c.args.out.now c.write_refused-written.new.out c.write_refused-written.result c.after_text.result
    (inr is_text) written c.after_text.ensures

pub returns-in-Err-Overlap : goal.returns-in-Err-Overlap
returns-in-Err-Overlap g c =
    let v = c.args.self.now in
    let m = g.M.Segments.segments c.args.message.now in
    let words = words_of v.limits in
    let within = words_under v.demands m words in
    let depth = depth_of v.limits in
    let h = rw c.in-Err-Overlap.field-0-is at c.in-Err-Overlap.ensures.err in
    let (text, is_text, written) = c.write_overlap-written.ensures within h.0.0 h.0.1.0 in
    writes_text g.O.ByteOut text Refused
    (OrRefused v.demands (g.R.RefusalPrinter.refuses v.refused) (OrOverlap (g.R.RefusalPrinter.overlaps v.refused)
    (g.A.AcceptedPrinter.reports v.accepted c.args.before words)) words depth c.args.number m)
    (AllocatesIn v.demands AllocatesMarks v.limits m)
    c.args.out.now c.write_overlap-written.new.out c.write_overlap-written.result c.after_text-in-Err-Overlap.result
    (inl (h.0.1.1.strict, inr is_text)) written c.after_text-in-Err-Overlap.ensures

pub write_refused-written-requires : goal.write_refused-written-requires
write_refused-written-requires g c =
    let v = c.args.self.now in (v.demands, words_of v.limits, rw c.in-Err-Refused.field-0-is at c.in-Err-Refused.ensures.err)

pub write_overlap-written-requires : goal.write_overlap-written-requires
write_overlap-written-requires g c =
    let h = rw c.in-Err-Overlap.field-0-is at c.in-Err-Overlap.ensures.err in h.1
