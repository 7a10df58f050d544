use Rattle.cap_spec.proofs.ProofNames.{rules, to_cap, to_null}
use Rattle.cap_ptr.proofs.following.resolved.Goals as goal

pub returns-in-Null : goal.returns-in-Null
returns-in-Null g c = λ s w h. h.leads to_null c.in-Null.ensures.form

pub returns-in-Cap : goal.returns-in-Cap
returns-in-Cap g c = λ s w h. h.leads (to_cap c.in-Cap.index) c.in-Cap.ensures.form

pub returns-in-Reserved : goal.returns-in-Reserved
returns-in-Reserved g c = search rules

pub returns-in-Far : goal.returns-in-Far
returns-in-Far g c = search rules
