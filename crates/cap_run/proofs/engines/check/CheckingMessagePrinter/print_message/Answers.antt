use Rattle.std.proofs.Common.{inl, inr, refl}
use Rattle.cap_spec.specs.Texts.{check_text, strict_verdict, vet_text}
use Rattle.cap_vet.specs.Vettings.{report_of}
use Rattle.cap_run.specs.Checking.{ReportsChecked}
use Rattle.cap_run.specs.Demanding.{OrFaultIn}
use Rattle.cap_run.specs.declared.engines.stream.Counted.TheVariants.{Refused}
use Rattle.cap_run.proofs.Printing.{writes_text}
use Rattle.cap_run.proofs.engines.check.CheckingMessagePrinter.print_message.Goals as goal

pub returns-in-Ok : goal.returns-in-Ok
returns-in-Ok g c =
    let v = c.args.self.now in
    let met = c.in-Ok.ensures.ok in
    writes_text g.O.ByteOut (check_text c.args.number c.in-Ok.canonical) c.count_of.result
    (OrFaultIn v.demands ReportsChecked v.limits c.args.number (g.M.Segments.segments c.args.message.now)) ⊥
    c.args.out.now c.write_check-written.new.out c.write_check-written.result c.after_text.result
    (inl (
      met.1.strict,
      record {
        report = report_of c.in-Ok.field-0-0;
        is_accepted = met.0;
        canonical = c.in-Ok.canonical;
        decides = c.in-Ok.ensures.canonical;
        line = refl;
        counts = c.count_of.ensures;
      },
    ))
    c.write_check-written.ensures c.after_text.ensures

pub returns-in-Err : goal.returns-in-Err
returns-in-Err g c =
    let v = c.args.self.now in
    writes_text g.O.ByteOut (vet_text c.args.number (strict_verdict c.in-Err.refusal)) Refused
    (OrFaultIn v.demands ReportsChecked v.limits c.args.number (g.M.Segments.segments c.args.message.now)) ⊥
    c.args.out.now c.write_refused-written.new.out c.write_refused-written.result c.after_text-in-Err.result
    (inr (record { fault = c.in-Err.refusal; is_fault = c.in-Err.ensures.err; line = refl; counts = refl }))
    c.write_refused-written.ensures c.after_text-in-Err.ensures
