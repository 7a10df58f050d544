use Rattle.std.proofs.Common.{append_assoc, rules}
use Rattle.cap_text.proofs.json.push_numbers.Goals as goal

pub returns-clause-items : goal.returns-clause-items
returns-clause-items c =
    let depth = rw c.from.ensures at c.push_member-2.ensures.items in
    search (rules, depth, append_assoc)
