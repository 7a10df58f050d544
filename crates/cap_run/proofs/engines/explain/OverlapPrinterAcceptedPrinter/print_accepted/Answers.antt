use Rattle.cap_spec.proofs.ProofNames.{List, Some, ap, inl, inr, refl, subst, ℕ, IsFirstOverlap, most_depth, most_words}
use Rattle.cap_walk.specs.Limits.{depth_of}
use Rattle.cap_vet.specs.Vettings.{message_of, report_of}
use Rattle.cap_explain.specs.declared.numbers.MessageStart.{MessageStart}
use Rattle.cap_text.specs.Lines.{accepted_text}
use Rattle.cap_text.specs.Writing.{Writes}
use Rattle.cap_run.specs.Explained.{IsOverlapText, ReportsExclusivenessLines}
use Rattle.cap_run.specs.Vetting.{AllocatesMarks}
use Rattle.cap_run.specs.declared.engines.stream.Counted.TheVariants.{Accepted, Refused}
use Rattle.cap_run.proofs.Explaining.{accepted_within}
use Rattle.cap_run.proofs.Printing.{writes_text}
use Rattle.cap_run.proofs.engines.explain.OverlapPrinterAcceptedPrinter.print_accepted.Goals as goal

pub returns-in-Ok : goal.returns-in-Ok
returns-in-Ok g c = λ words t h.
    let depth = depth_of c.args._limits in
    let m = g.M.Segments.segments (message_of c.args.vetted.now) in
    let n = c.args.number in
    writes_text g.O.ByteOut (accepted_text n c.report.result) Accepted (ReportsExclusivenessLines c.args.self.now.packed c.args.before words depth n m) (AllocatesMarks words depth m)
    c.args.out.now c.write_accepted-written.new.out c.write_accepted-written.result c.after_text.result
    (inl (
      c.in-Ok.ensures.ok,
      record { report = report_of c.args.vetted.now; is_accepted = (t, h); line = cc; counts = refl },
    ))
    c.write_accepted-written.ensures c.after_text.ensures

pub returns-in-Err-Overlap : goal.returns-in-Err-Overlap
returns-in-Err-Overlap g c = λ words t h.
    let depth = depth_of c.args._limits in
    let m = g.M.Segments.segments (message_of c.args.vetted.now) in
    let n = c.args.number in
    let refusal = c.in-Err-Overlap in
    let is_first = refusal.ensures.overlap refusal.segment refusal.word refusal.pointers (cc) in
    let seen = g.M.Segments.segments c.message.result.now in
    let reported = subst (λ (m : List (List ℕ)). (f : IsFirstOverlap m refusal.segment refusal.word refusal.pointers)
    → (text : List ℕ) × IsOverlapText m n (Some c.start_after.result) f text
    × Writes g.O.ByteOut c.args.out.now c.write_both_pointers-written.new.out c.write_both_pointers-written.result text)
    (ap g.M.Segments.segments c.message.ensures.value)
    (c.write_both_pointers-written.ensures most_words (accepted_within seen most_words most_depth _ c.message.ensures.accepted))
    is_first in
    let (text, is_text, written) = subst (λ (s : MessageStart). (text : List ℕ) × IsOverlapText m n (Some s) is_first text
    × Writes g.O.ByteOut c.args.out.now c.write_both_pointers-written.new.out c.write_both_pointers-written.result text)
    c.start_after.ensures reported in
    writes_text g.O.ByteOut text Refused (ReportsExclusivenessLines c.args.self.now.packed c.args.before words depth n m) (AllocatesMarks words depth m)
    c.args.out.now c.write_both_pointers-written.new.out c.write_both_pointers-written.result c.after_text-in-Err-Overlap.result
    (inr (record {
      report = report_of c.args.vetted.now;
      is_accepted = (t, h);
      segment = refusal.segment;
      word = refusal.word;
      pointers = refusal.pointers;
      is_first = is_first;
      lines = is_text;
      counts = refl;
    }))
    written c.after_text-in-Err-Overlap.ensures

pub returns-in-Err-Memory : goal.returns-in-Err-Memory
returns-in-Err-Memory g c = λ words t h. let depth = depth_of c.args._limits in ((report_of c.args.vetted.now, (t, h)), refl)
