use Rattle.cap_spec.proofs.Lemmas.{first_fault_kept, kept_before}
use Rattle.cap_spec.proofs.Verdicts.Refusals.{refused_justified}
use Rattle.cap_laws.proofs.verdicts.refused_is_justified.Goals as goal

pub returns-clause-justified : goal.returns-clause-justified
returns-clause-justified c = refused_justified

pub returns-clause-kept : goal.returns-clause-kept
returns-clause-kept c m words depth refusal f = kept_before f

pub returns-clause-first : goal.returns-clause-first
returns-clause-first c m words depth path refusal f within shallow few = first_fault_kept f within shallow few
