use Rattle.std.proofs.Common.{append_assoc, rules}
use Rattle.cap_text.proofs.json.no_form_object.Goals as goal

pub returns : goal.returns
returns c =
    let segment = rw c.from.ensures at c.push_member.ensures.items in
    let word = rw c.from-2.ensures at c.push_member-2.ensures.items in
    search (rules, segment, word, append_assoc)
