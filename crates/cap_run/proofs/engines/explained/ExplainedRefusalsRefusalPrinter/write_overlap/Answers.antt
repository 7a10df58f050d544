use Rattle.cap_spec.proofs.ProofNames.{None, refl}
use Rattle.cap_vet.specs.VetNames.{depth_of}
use Rattle.cap_explain.specs.Explaining.{overlap_explanation}
use Rattle.cap_explain.specs.Meanings.{HasTrueReason}
use Rattle.cap_run.proofs.Explaining.{accepted_within}
use Rattle.cap_run.proofs.Reasons.{overlap_reason}
use Rattle.cap_run.proofs.engines.explained.ExplainedRefusalsRefusalPrinter.write_overlap.Goals as goal

pub returns : goal.returns
returns g c = λ words report accepted.
    let m = g.M.Segments.segments c.args.message.now in
    let depth = depth_of c.args.limits in
    let s = c.args.segment in
    let w = c.args.word in
    let is_first = c.requires in
    let reason : HasTrueReason m words depth s w (overlap_explanation None m None s w) =
    overlap_reason m words depth s w c.args.pointers is_first in (
      _,
      record {
        report = report;
        is_accepted = accepted;
        segment = s;
        word = w;
        pointers = c.args.pointers;
        is_first = is_first;
        reason = reason;
        line = refl;
        counts = refl;
      },
      c.write_overlap_object.ensures words (accepted_within m words depth report accepted) is_first reason,
    )
