use Rattle.std.proofs.Common.{false}
use Rattle.cap_spec.proofs.Lemmas.{charge_is_cost, pointer_path_reached, paths_cost_charge}
use Rattle.cap_spec.proofs.Paths.PathCounts.{pointer_paths}
use Rattle.cap_spec.proofs.Paths.PathLists.{is_pointer, listed_rise}
use Rattle.cap_laws.proofs.verdicts.charge_is_cost_of_paths.Goals as goal

pub returns-clause-all : goal.returns-clause-all
returns-clause-all c = λ m t x d h. (
  pointer_paths t,
  listed_rise is_pointer false t,
  charge_is_cost m t x d h,
  pointer_path_reached m t x d h,
)

pub returns-clause-some : goal.returns-clause-some
returns-clause-some c = paths_cost_charge
