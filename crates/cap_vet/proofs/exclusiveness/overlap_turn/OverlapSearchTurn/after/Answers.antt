use Rattle.cap_spec.proofs.ProofNames.{rules}
use Rattle.cap_vet.proofs.MarkingWalk.{kept_overlaps}
use Rattle.cap_vet.proofs.exclusiveness.overlap_turn.OverlapSearchTurn.after.Goals as goal

pub returns-clause-ok : goal.returns-clause-ok
returns-clause-ok g c = λ seen a looked known. (
  c.mark.ensures.known seen a _ looked known.0,
  c.in-Ok.ensures.ok seen a looked (rw c.mark.ensures.strictness known.1),
)

pub returns-in-Some-clause-err : goal.returns-in-Some-clause-err
returns-in-Some-clause-err g c =
    let k = c.requires.known in
    let known = c.mark.ensures.known k.0 k.1 _ k.2 k.3.0 in
    search (rules, kept_overlaps)
