use Rattle.cap_cmd.proofs.SameMarks.{same_marked}
use Rattle.cap_cmd.proofs.marked.MarkedLinesByteOut.flush.Goals as goal

pub returns-clause-for_good : goal.returns-clause-for_good
returns-clause-for_good g c = λ closed. same_marked _ _ _ (c.flush.ensures.for_good closed)
