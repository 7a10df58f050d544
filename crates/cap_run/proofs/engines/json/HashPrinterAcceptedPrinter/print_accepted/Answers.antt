use Rattle.cap_spec.proofs.ProofNames.{inl, inr, refl}
use Rattle.cap_walk.specs.Limits.{depth_of}
use Rattle.cap_vet.specs.Vettings.{message_of, report_of}
use Rattle.cap_text.specs.JsonLines.{hash_json, no_form_json}
use Rattle.cap_run.specs.Hashing.{AllocatesCopy}
use Rattle.cap_run.specs.JsonReports.{ReportsHashedJson}
use Rattle.cap_run.specs.declared.engines.stream.Counted.TheVariants.{Accepted, NotCanonical}
use Rattle.cap_run.proofs.Printing.{writes_text}
use Rattle.cap_run.proofs.engines.json.HashPrinterAcceptedPrinter.print_accepted.Goals as goal

pub returns-in-Ok : goal.returns-in-Ok
returns-in-Ok g c = λ words t h.
    let depth = depth_of c.args._limits in
    let m = g.M.Segments.segments (message_of c.args.vetted.now) in
    let n = c.args.number in
    let (copied, copy, digest) = c.in-Ok.ensures.ok in
    writes_text g.O.ByteOut (hash_json n c.in-Ok.digest) Accepted (ReportsHashedJson words depth n m) (AllocatesCopy words depth m)
    c.args.out.now c.write_hash_json-written.new.out c.write_hash_json-written.result c.after_text.result
    (inl (record {
      report = report_of c.args.vetted.now;
      is_accepted = (t, h);
      tree = copy.tree;
      charge = copy.charge;
      deepest = copy.depth;
      denotes = copy.denotes;
      no_caps = copy.no_caps;
      line = cc;
      counts = refl;
    }))
    c.write_hash_json-written.ensures c.after_text.ensures

pub returns-in-Err-HasCapability : goal.returns-in-Err-HasCapability
returns-in-Err-HasCapability g c = λ words t h.
    let depth = depth_of c.args._limits in
    let m = g.M.Segments.segments (message_of c.args.vetted.now) in
    let n = c.args.number in
    let found = c.in-Err-HasCapability in
    writes_text g.O.ByteOut (no_form_json n found.segment found.word) NotCanonical (ReportsHashedJson words depth n m) (AllocatesCopy words depth m)
    c.args.out.now c.write_no_form_json-written.new.out c.write_no_form_json-written.result c.after_text-in-Err-HasCapability.result
    (inr (record {
      report = report_of c.args.vetted.now;
      is_accepted = (t, h);
      segment = found.segment;
      word = found.word;
      is_first = found.ensures.cap found.segment found.word (cc);
      line = refl;
      counts = refl;
    }))
    c.write_no_form_json-written.ensures c.after_text-in-Err-HasCapability.ensures
