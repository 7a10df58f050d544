use Rattle.cap_vet.proofs.Pointing.{marks_use}
use Rattle.cap_vet.proofs.exclusiveness.marks.Marks.mark_pointer.Goals as goal
use Rattle.cap_spec.proofs.ProofNames.{rules}

pub returns-in-Some : goal.returns-in-Some
returns-in-Some g c =
    let place = c.in-Some.ensures in
    marks_use place.used (search rules)
