use Rattle.std.proofs.Common.{refl}
use Rattle.cap_difference.proofs.nulls.is_null.Goals as goal

pub returns-in-Ok-Null : goal.returns-in-Ok-Null
returns-in-Ok-Null g c = (λ _. (c.in-Ok-Null.field-0-0, (rw c.in-Ok-Null.field-0-is at c.in-Ok-Null.ensures.ok)), λ _. refl)

pub returns-in-Err : goal.returns-in-Err
returns-in-Err g c = (λ yes. absurd (cc yes), λ (k, h). let e = c.in-Err.ensures.null k h in absurd (cc e))
