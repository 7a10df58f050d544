use Rattle.std.proofs.Common.{sym}
use Rattle.cap_canon.proofs.Filling.{scalars_size}
use Rattle.cap_canon.proofs.stack.own_words.Goals as goal

pub returns-in-Scalars : goal.returns-in-Scalars
returns-in-Scalars c = λ m d s w tree h.
    let k = rw c.in-Scalars.is at h in
    sym (scalars_size k.1)
