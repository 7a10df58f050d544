use Rattle.cap_spec.proofs.Packed.Groups.{unpacks_whole, unpacks_words}
use Rattle.cap_spec.proofs.Packed.OneUnpacking.{unpacks_unless_cut}
use Rattle.cap_spec.proofs.ProofNames.{subst, sym, Unpacks}
use Rattle.cap_laws.proofs.packing.unpacks_as_computed.Goals as goal

pub returns : goal.returns
returns c = λ bytes all words. (
  (λ u. (unpacks_whole bytes words u, unpacks_words bytes words u)),
  (λ e. subst (λ k. Unpacks bytes k) (sym e.1) (unpacks_unless_cut bytes all e.0)),
)
