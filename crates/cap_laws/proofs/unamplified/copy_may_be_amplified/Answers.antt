use Rattle.cap_spec.proofs.Strict.Amplified.{amplified_copy}
use Rattle.cap_laws.proofs.unamplified.copy_may_be_amplified.Goals as goal

pub returns : goal.returns
returns c = amplified_copy
