-- What is given where the path leads.
use Rattle.cap_spec.proofs.ProofNames.{refl, rules, IsMessage}
use Rattle.cap_vet.proofs.GivenPaths.{nothing_given, no_node_fault_given, refusal_given, something_given}
use Rattle.cap_vet.proofs.GivenPaths.{to_fault_given}
use Rattle.cap_vet.proofs.nodes.getting.given.Goals as goal

pub returns-in-Some-clause-given : goal.returns-in-Some-clause-given
returns-in-Some-clause-given g c = λ words depth path h.
    let message : IsMessage _ = search rules in
    to_fault_given _ _ words depth path c.in-To.at _ message.few (rw c.in-To.is at h) c.in-Some.ensures.some

pub returns-in-None-clause-given : goal.returns-in-None-clause-given
returns-in-None-clause-given g c = λ words depth path h.
    something_given c.args.demands _ words depth path c.in-To.at _ refl (rw c.in-To.is at h) c.in-None.ensures.none

pub returns-in-Some-strict_fault-clause-given : goal.returns-in-Some-strict_fault-clause-given
returns-in-Some-strict_fault-clause-given g c = λ words depth path h.
    let message : IsMessage _ = search rules in
    no_node_fault_given c.args.demands _ words depth path c.in-Early.at _ message.few (rw c.in-Early.is at h)
    c.in-Some-strict_fault.ensures.some

pub returns-in-None-strict_fault-clause-given : goal.returns-in-None-strict_fault-clause-given
returns-in-None-strict_fault-clause-given g c = λ words depth path h.
    nothing_given _ _ words depth path c.in-Early.at (rw c.in-Early.is at h) c.in-None-strict_fault.ensures.none

pub returns-in-Refused-clause-given : goal.returns-in-Refused-clause-given
returns-in-Refused-clause-given g c = λ words depth path h.
    refusal_given c.args.demands _ words depth path c.in-Refused.refusal (rw c.in-Refused.is at h)
