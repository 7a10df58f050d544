use Rattle.cap_spec.proofs.Strict.Faults.{one_strict_fault, strict_not_fault, strict_or_fault}
use Rattle.cap_laws.proofs.strict.strict_or_one_fault.Goals as goal

pub returns-clause-either : goal.returns-clause-either
returns-clause-either c = strict_or_fault

pub returns-clause-not_both : goal.returns-clause-not_both
returns-clause-not_both c = strict_not_fault

pub returns-clause-one : goal.returns-clause-one
returns-clause-one c = one_strict_fault
