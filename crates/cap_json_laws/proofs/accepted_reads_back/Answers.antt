use Rattle.std.proofs.Common.{[], append-nil, refl, subst, ◌++◌}
use Rattle.std.specs.Prelude.{codes}
use Rattle.cap_json_laws.specs.JsonFields.{IsLineOf, verdict_value}
use Rattle.cap_spec.specs.Texts.{accepted}
use Rattle.cap_text.specs.JsonLines.{number_members, object_start}
use Rattle.cap_json_laws.proofs.Lines.{accepted_line}
use Rattle.cap_json_laws.proofs.accepted_reads_back.Goals as goal

pub returns : goal.returns
returns g = λ n c d p k fits h.
    subst (λ front. IsLineOf (front ++ codes "}\n") (verdict_value n (accepted c d p k)))
    (append-nil (object_start n (codes "accepted") ++ number_members c d p k))
    (accepted_line n c d p k [] [] [] fits h.0 h.1 h.2 h.3 refl tt refl)
