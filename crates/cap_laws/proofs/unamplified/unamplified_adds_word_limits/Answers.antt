use Rattle.cap_spec.proofs.ProofNames.{arith, unamplified}
use Rattle.cap_spec.proofs.Strict.Unamplified.{added_refusals}
use Rattle.cap_laws.proofs.unamplified.unamplified_adds_word_limits.Goals as goal

pub returns : goal.returns
returns c = λ m words depth refusal h. added_refusals m (unamplified m words) words depth refusal (omega arith) h
