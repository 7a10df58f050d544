use Rattle.cap_spec.proofs.Strict.Copies.{copy_strict}
use Rattle.cap_laws.proofs.strict.copy_is_strict.Goals as goal

pub returns : goal.returns
returns c = λ m words limit depth k few within shallow. copy_strict m words limit depth k few within shallow
