use Rattle.cap_spec.proofs.ProofNames.{refl}
use Rattle.cap_run.proofs.engines.json.RefusalObjectsRefusalPrinter.write_overlap.Goals as goal

pub returns : goal.returns
returns g c = λ words report accepted. (
  _,
  record {
    report = report;
    is_accepted = accepted;
    segment = c.args.segment;
    word = c.args.word;
    pointers = c.args.pointers;
    is_first = c.requires;
    line = refl;
    counts = refl;
  },
  c.write_overlap_json.ensures,
)
