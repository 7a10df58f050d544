-- What was vetted is the view, and the slice has its words.
use Rattle.std.proofs.Common.{ap, refl, subst, sym, ◌∙◌}
use Rattle.cap_frame.specs.Bytes.{cut}
use Rattle.cap_canon.specs.CopyBuffers.{ReportsBuffer}
use Rattle.cap_calls.specs.CallFindings.{accepted}
use Rattle.cap_calls.specs.CallNames.{ByteView, refused, size_found}
use Rattle.cap_calls.proofs.Copied.{copy_found}
use Rattle.cap_calls.proofs.calls.canonical.CopyingCall.on_one.Goals as goal

pub canonical_from-requires : goal.canonical_from-requires
canonical_from-requires c =
    c.of-slice.ensures ∙ ap (λ (u : ByteView). cut u.sizes.now u.bytes.now) (sym c.in-Ok.ensures.message)

pub returns-in-Ok : goal.returns-in-Ok
returns-in-Ok c =
    let v = c.args.view.now in
    let report = c.in-Ok.vetted.report in
    let reported = c.canonical_from.result in
    let reports = subst (λ (u : ByteView). ReportsBuffer (cut u.sizes.now u.bytes.now) c.args.out.now reported
    c.canonical_from.new.out) c.in-Ok.ensures.message
    c.canonical_from.ensures.reports in
    accepted report c.in-Ok.ensures.ok.0 c.in-Ok.ensures.ok.1
    (copy_found (cut v.sizes.now v.bytes.now) c.args.out.now c.canonical_from.new.out report reported
    c.found_of_size.result c.in-Ok.ensures.ok.0.1.first_cap
    reports (c.found_of_size.ensures ∙ ap (size_found reported) c.report.ensures.value))

pub returns-in-Err : goal.returns-in-Err
returns-in-Err c = refused c.in-Err.fault c.in-Err.ensures.err c.refused.ensures refl
