use Rattle.std.proofs.Common.{append_assoc}
use Rattle.cap_explain.proofs.forms.push_sizes.Goals as goal

pub returns-clause-items : goal.returns-clause-items
returns-clause-items c =
    let words = rw c.data_size.ensures at c.push_named.ensures.items in
    let pointers = rw c.pointer_size.ensures at c.push_named-2.ensures.items in
    rw (pointers, words) (simp append_assoc)
