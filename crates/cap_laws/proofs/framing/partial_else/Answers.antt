use Rattle.cap_spec.proofs.Frames.Endings.{none_not_partial}
use Rattle.cap_spec.proofs.Frames.OneEnding.{message_partial, partial_else, too_large_partial, too_many_partial}
use Rattle.cap_spec.proofs.ProofNames.{[], subst, IsPartial}
use Rattle.cap_laws.proofs.framing.partial_else.Goals as goal

pub returns : goal.returns
returns c = λ limit words cut all. (
  (λ p. (
    (λ a. message_partial limit words cut a p),
    (λ a. none_not_partial limit (subst (λ x. IsPartial limit [] x) a.1 (subst (λ x. IsPartial limit x cut) a.0 p))),
    (λ a. too_many_partial limit words cut a p),
    (λ a. too_large_partial limit words cut a p),
  )),
  (λ n. partial_else limit words cut all n.0 n.1 n.2 n.3),
)
