use Rattle.cap_spec.proofs.Paths.Preorder.{Rises-distinct, one_first_cap, one_tour}
use Rattle.cap_laws.proofs.paths.one_tour.Goals as goal

pub returns-clause-one : goal.returns-clause-one
returns-clause-one c = one_tour

pub returns-clause-distinct : goal.returns-clause-distinct
returns-clause-distinct c = λ m p tour h. Rises-distinct tour h.rising

pub returns-clause-first_cap : goal.returns-clause-first_cap
returns-clause-first_cap c = one_first_cap
