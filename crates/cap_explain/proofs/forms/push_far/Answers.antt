use Rattle.std.proofs.Common.{append_assoc}
use Rattle.cap_explain.proofs.forms.push_far.Goals as goal

pub returns-clause-items : goal.returns-clause-items
returns-clause-items c =
    let place = rw (c.far_segment.ensures, c.pad.ensures) at c.push_place.ensures.items in
    let words = rw c.two.ensures at c.push_named.ensures.items in
    rw (words, place, c.push_text.ensures) (simp append_assoc)
