use Rattle.cap_spec.proofs.Paths.PathCounts.{caps_counted, first_cap, pointers_counted}
use Rattle.cap_laws.proofs.paths.counts_are_numbers_of_paths.Goals as goal

pub returns-clause-pointers : goal.returns-clause-pointers
returns-clause-pointers c = pointers_counted

pub returns-clause-caps : goal.returns-clause-caps
returns-clause-caps c = caps_counted

pub returns-clause-first_cap : goal.returns-clause-first_cap
returns-clause-first_cap c = first_cap
