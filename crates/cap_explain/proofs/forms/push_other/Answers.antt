use Rattle.std.proofs.Common.{refl}
use Rattle.cap_explain.proofs.forms.push_other.Goals as goal

pub returns-then-middle-eq0-clause-items : goal.returns-then-middle-eq0-clause-items
returns-then-middle-eq0-clause-items c =
    let index = rw c.cap_index.ensures at c.push_named.ensures.items in
    let none = rw c.middle.ensures at c.if-middle-eq0.true in
    rw (index, none) refl
