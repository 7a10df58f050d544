use Rattle.cap_spec.proofs.Packed.Groups.{cut_is_cut, cut_words}
use Rattle.cap_spec.proofs.Packed.OneUnpacking.{cut_if_cut}
use Rattle.cap_spec.proofs.ProofNames.{subst, sym, Cut}
use Rattle.cap_laws.proofs.packing.cut_as_computed.Goals as goal

pub returns : goal.returns
returns c = λ bytes all words. (
  (λ u. (cut_is_cut bytes words u, cut_words bytes words u)),
  (λ e. subst (λ k. Cut bytes k) (sym e.1) (cut_if_cut bytes all e.0)),
)
