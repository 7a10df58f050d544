use Rattle.cap_spec.proofs.ProofNames.{None, true}
use Rattle.cap_explain.specs.Explaining.{path_lines}
use Rattle.cap_explain.specs.declared.sentences.Fault.TheVariants.{Overlap}
use Rattle.cap_explain.proofs.Reasons.{true_lines, true_overlap, true_reason}
use Rattle.cap_explain.proofs.laws.reason_is_true.Goals as goal

pub returns-clause-refused : goal.returns-clause-refused
returns-clause-refused c = λ demands m words depth fault path k h. true_reason demands m words depth fault (path_lines path) k h

pub returns-clause-overlap : goal.returns-clause-overlap
returns-clause-overlap c = λ m words depth s w pointers path start h.
    true_lines m words depth s w Overlap (path_lines path) (record { words = 0; depth = 0; charge = None; cycle = None; has_table = true; start = start })
    (true_overlap m words depth s w pointers h)
