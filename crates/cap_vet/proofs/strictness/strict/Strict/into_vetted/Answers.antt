use Rattle.cap_spec.proofs.ProofNames.{rules}
use Rattle.cap_vet.proofs.Laxness.{strict_held}
use Rattle.cap_vet.proofs.strictness.strict.Strict.into_vetted.Goals as goal

pub returns-clause-strict : goal.returns-clause-strict
returns-clause-strict g c = search (rules, strict_held)
