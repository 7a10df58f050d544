-- The numbers in the lines that explain a fault.
use Rattle.std.proofs.Common.{Bool, List, Option, inr, rules, ℕ, ◌≡◌}
use Rattle.cap_spec.specs.declared.Refusal.{Refusal}
use Rattle.cap_spec.specs.declared.StrictRefusal.{StrictRefusal}
use Rattle.cap_spec.specs.declared.StrictRefusal.TheVariants.{Refused}
use Rattle.cap_walk.specs.Demands.{IsDemandFault, words_under}
use Rattle.cap_walk.specs.Limits.{depth_of, words_of}
use Rattle.cap_walk.specs.declared.demands.Demands.{Demands}
use Rattle.cap_walk.specs.declared.limits.Limits.{Limits}
use Rattle.cap_trace.proofs.Named.{one_path}
use Rattle.cap_trace.specs.declared.returning.Cycle.{Cycle}
use Rattle.cap_explain.specs.Charges.{ChargeOf}
use Rattle.cap_explain.specs.ExplainedFaults.{fault_numbers}
use Rattle.cap_explain.specs.declared.numbers.MessageStart.{MessageStart}
use Rattle.cap_explain.specs.declared.numbers.Numbers.{Numbers}
use Rattle.cap_explain.proofs.Charges.{OnePath, charge_is}

-- a refusal names one path
pub one_path_of : (demands : Demands) (m : List (List ℕ)) (words depth : ℕ) (r : Refusal) → OnePath m (words_under demands m words) depth r
one_path_of demands m words depth r k f = search (rules, one_path demands m words depth (Refused r) (inr k) (inr f))

-- the numbers of a fault
pub same_numbers : (has_table : Bool) (demands : Demands) (m : List (List ℕ)) (words depth : ℕ) (fault : StrictRefusal)
    (h : IsDemandFault demands m words depth fault) (cycle : Option Cycle) (start : Option MessageStart) (within : Limits) (k : Numbers)
    → words_of within ≡ words_under demands m words → depth_of within ≡ depth → k.words ≡ words_of within → k.depth ≡ depth_of within
    → ChargeOf m (words_of within) (depth_of within) fault k.charge → k.cycle ≡ cycle → k.has_table ≡ has_table
    → k.start ≡ start → k ≡ fault_numbers has_table demands m words depth fault h cycle start
same_numbers has_table demands m words depth fault h cycle start within k w d kw kd c l t s =
    search (rules, charge_is demands m words depth fault (one_path_of demands m words depth) h k.charge, one_path_of demands m words depth)
