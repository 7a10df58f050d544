use Rattle.cap_spec.proofs.ProofNames.{Err, subst, sym, ◌≡◌, rules}
use Rattle.cap_frame.specs.HeldBytes.{held_segments}
use Rattle.cap_frame.specs.Limit.{limit_of}
use Rattle.cap_frame.specs.Reading.{ReadsFrame}
use Rattle.cap_run.proofs.Breaking.{cut_after, over_after}
use Rattle.cap_run.proofs.engines.reading.read_next.Goals as goal

pub is_cut_after-is_cut-requires : goal.is_cut_after-is_cut-requires
is_cut_after-is_cut-requires g c = search (rules, over_after)

pub returns-in-Err-clause-read : goal.returns-in-Err-clause-read
returns-in-Err-clause-read g c =
    subst (λ new. ReadsFrame g.S.WordSource (λ m. held_segments c.read_noting.new.message ≡ m) (limit_of c.args.limit)
    c.args.source.now new (Err c.in-Err.fault)) (sym c.is_cut_after-is_cut.ensures.same) c.in-Err.ensures.read

pub returns-in-Err-clause-at : goal.returns-in-Err-clause-at
returns-in-Err-clause-at g c = search (rules, cut_after)
