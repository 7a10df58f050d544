use Rattle.std.proofs.Common.{append_assoc}
use Rattle.cap_text.proofs.verdict.push_report.Goals as goal

pub returns-clause-items : goal.returns-clause-items
returns-clause-items c =
    let depth = rw c.from.ensures at c.push_named-2.ensures.items in
    rw (c.push_named-4.ensures.items, c.push_named-3.ensures.items, depth, c.push_named.ensures.items) (simp append_assoc)
