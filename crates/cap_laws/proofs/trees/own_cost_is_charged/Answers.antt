use Rattle.cap_spec.proofs.Trees.Charges.{one_cost, own_cost, pads_charged}
use Rattle.cap_laws.proofs.trees.own_cost_is_charged.Goals as goal

pub returns-clause-pads : goal.returns-clause-pads
returns-clause-pads c = pads_charged

pub returns-clause-costs : goal.returns-clause-costs
returns-clause-costs c = own_cost

pub returns-clause-one : goal.returns-clause-one
returns-clause-one c = one_cost
