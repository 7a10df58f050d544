use Rattle.cap_spec.proofs.ProofNames.{List, ap, inl, inr, subst, ℕ, Tree}
use Rattle.cap_vet.specs.VetNames.{words_under, depth_of, words_of, IsReport, report_of}
use Rattle.cap_run.specs.Demanding.{OrRefused}
use Rattle.cap_run.specs.RunNames.{AllocatesUnder, WritesOneOf}
use Rattle.cap_run.specs.declared.engines.stream.Counted.TheVariants.{Refused}
use Rattle.cap_run.proofs.Printing.{writes_as, writes_text}
use Rattle.cap_run.proofs.engines.vetting.VettingMessagePrinter.print_message.Goals as goal

pub returns-in-Ok : goal.returns-in-Ok
returns-in-Ok g c =
    let v = c.args.self.now in
    let m = g.M.Segments.segments c.args.message.now in
    let words = words_of v.limits in
    let within = words_under v.demands m words in
    let depth = depth_of v.limits in
    let texts = g.A.AcceptedPrinter.reports v.accepted c.args.before words in
    let allocates = g.A.AcceptedPrinter.allocates v.accepted in
    let met = c.in-Ok.ensures.ok in
    let reported = subst (λ (m : List (List ℕ)). (w : ℕ) (t : Tree) → IsReport m w depth (report_of c.in-Ok.vetted) t
    → WritesOneOf g.O.ByteOut (texts w depth c.args.number m) (allocates w depth m)
    c.args.out.now c.print_accepted.new.out c.print_accepted.result)
    (ap g.M.Segments.segments c.in-Ok.ensures.message) c.print_accepted.ensures in
    writes_as g.O.ByteOut (texts within depth c.args.number m)
    (OrRefused v.demands (g.R.RefusalPrinter.refuses v.refused) texts words depth c.args.number m)
    (allocates within depth m) (AllocatesUnder v.demands allocates words depth m)
    c.args.out.now c.print_accepted.new.out c.print_accepted.result (λ text counted e. inl (met.1.strict, e)) (λ w. (met.1.strict, w))
    (reported within met.0.0 met.0.1)

pub returns-in-Err : goal.returns-in-Err
returns-in-Err g c =
    let v = c.args.self.now in
    let m = g.M.Segments.segments c.args.message.now in
    let words = words_of v.limits in
    let depth = depth_of v.limits in
    let (text, is_text, written) = c.write_refused.ensures v.demands words c.in-Err.ensures.err in
    writes_text g.O.ByteOut text Refused
    (OrRefused v.demands (g.R.RefusalPrinter.refuses v.refused) (g.A.AcceptedPrinter.reports v.accepted c.args.before words) words depth
    c.args.number m)
    (AllocatesUnder v.demands (g.A.AcceptedPrinter.allocates v.accepted) words depth m)
    c.args.out.now c.write_refused.new.out c.write_refused.result c.after_text.result
    (inr is_text) written c.after_text.ensures

pub write_refused-requires : goal.write_refused-requires
write_refused-requires g c = let v = c.args.self.now in (v.demands, words_of v.limits, c.in-Err.ensures.err)
