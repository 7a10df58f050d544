use Rattle.std.proofs.Common.{Ok, Option, subst}
use Rattle.cap_frame.specs.Bytes.{cut}
use Rattle.cap_run.specs.RunNames.{FilterReports, FilterAllocates, FindsRejection, rejection_text, Rejection}
use Rattle.cap_run.proofs.Sifting.{sifts_passed, sifts_refused, sifts_stopped, sifts_unflushed}
use Rattle.cap_run.proofs.engines.sifting.MessageFilter.sift.Goals as goal

pub returns-in-Ok : goal.returns-in-Ok
returns-in-Ok g c =
    let v = c.args.self.now in
    let m = cut c.args.message.now.sizes.now c.args.message.now.bytes.now in
    let verdict = FilterReports v in
    let allocates = FilterAllocates v in
    let found = subst (λ (o : Option Rejection). FindsRejection verdict allocates m (Ok o)) c.in-Ok-None.field-0-is c.in-Ok-None.ensures in
    sifts_passed g.O.ByteOut g.E.ByteOut v.form.pack verdict allocates c.args.number m c.args.out.now c.pass_on.new.out c.args.log.now
    c.args.state.now.failed c.args.state.now.waits c.args.wait (found c.args.number) c.in-Ok.ensures

pub returns-in-Err-pass_on : goal.returns-in-Err-pass_on
returns-in-Err-pass_on g c =
    let v = c.args.self.now in
    let m = cut c.args.message.now.sizes.now c.args.message.now.bytes.now in
    let verdict = FilterReports v in
    let allocates = FilterAllocates v in
    let found = subst (λ (o : Option Rejection). FindsRejection verdict allocates m (Ok o)) c.in-Ok-None.field-0-is c.in-Ok-None.ensures in
    sifts_stopped g.O.ByteOut g.E.ByteOut v.form.pack verdict allocates c.args.number m c.args.out.now c.pass_on.new.out c.args.log.now
    c.args.state.now.failed c.args.state.now.waits c.args.state.now.waits c.in-Err-pass_on.fault (found c.args.number) c.in-Err-pass_on.ensures

pub returns-in-Ok-flush_waiting : goal.returns-in-Ok-flush_waiting
returns-in-Ok-flush_waiting g c =
    let v = c.args.self.now in
    let m = cut c.args.message.now.sizes.now c.args.message.now.bytes.now in
    let verdict = FilterReports v in
    let allocates = FilterAllocates v in
    let found = subst (λ (o : Option Rejection). FindsRejection verdict allocates m (Ok o)) c.in-Ok-Some.field-0-is c.in-Ok-Some.ensures in
    sifts_refused g.O.ByteOut g.E.ByteOut v.form.pack verdict allocates c.args.number m c.args.out.now c.flush_waiting.new.out c.args.log.now
    c.note-state.new.log c.args.state.now.failed c.note-state.result c.args.state.now.waits (rejection_text c.args.number c.in-Ok-Some.rejection)
    (found c.args.number) c.in-Ok-flush_waiting.ensures.ok c.note-state.ensures

pub returns-in-Err-flush_waiting : goal.returns-in-Err-flush_waiting
returns-in-Err-flush_waiting g c =
    let v = c.args.self.now in
    let m = cut c.args.message.now.sizes.now c.args.message.now.bytes.now in
    let verdict = FilterReports v in
    let allocates = FilterAllocates v in
    let found = subst (λ (o : Option Rejection). FindsRejection verdict allocates m (Ok o)) c.in-Ok-Some.field-0-is c.in-Ok-Some.ensures in
    sifts_unflushed g.O.ByteOut g.E.ByteOut v.form.pack verdict allocates c.args.number m c.args.out.now c.flush_waiting.new.out c.args.log.now
    c.args.state.now.failed c.args.state.now.waits c.args.state.now.waits c.in-Err-flush_waiting.fault
    (rejection_text c.args.number c.in-Ok-Some.rejection) (found c.args.number) c.in-Err-flush_waiting.ensures.err
