-- What was vetted is the view.
use Rattle.std.proofs.Common.{ap, refl, subst, ◌∙◌}
use Rattle.cap_frame.specs.Bytes.{cut}
use Rattle.cap_canon.specs.CopyBuffers.{ReportsBuffer}
use Rattle.cap_calls.specs.CallFindings.{accepted}
use Rattle.cap_calls.specs.CallNames.{ByteView, refused, size_found}
use Rattle.cap_calls.proofs.Copied.{copy_found}
use Rattle.cap_calls.proofs.calls.canonical.CopyingCall.on.Goals as goal

pub returns-in-Ok : goal.returns-in-Ok
returns-in-Ok c =
    let v = c.args.view.now in
    let report = c.in-Ok.vetted.report in
    let reported = c.canonical_into.result in
    let reports = subst (λ (u : ByteView). ReportsBuffer (cut u.sizes.now u.bytes.now) c.args.out.now reported
    c.canonical_into.new.out) c.in-Ok.ensures.message
    c.canonical_into.ensures.reports in
    accepted report c.in-Ok.ensures.ok.0 c.in-Ok.ensures.ok.1
    (copy_found (cut v.sizes.now v.bytes.now) c.args.out.now c.canonical_into.new.out report reported
    c.found_of_size.result c.in-Ok.ensures.ok.0.1.first_cap
    reports (c.found_of_size.ensures ∙ ap (size_found reported) c.report.ensures.value))

pub returns-in-Err : goal.returns-in-Err
returns-in-Err c = refused c.in-Err.refusal c.in-Err.ensures.err c.refused.ensures refl
