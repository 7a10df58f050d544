use Rattle.std.proofs.Common.{[], ap, codes, decimal, ◌++◌, ◌∙◌, ◌∷◌}
use Rattle.cap_text.proofs.Appends.{both_then}
use Rattle.cap_text.proofs.breaks.push_table_line.Goals as goal

pub returns-in-Some-clause-items : goal.returns-in-Some-clause-items
returns-in-Some-clause-items c =
    let name = codes "  table segments " in
    rw c.in-Some.is (both_then c.args.page.now c.push_named.new.self c.push_named-in-Some.new.self c.push_text.new.self
    (name ++ decimal c.in-Some.table.segments) (codes ", words " ++ decimal c.in-Some.table.words) (10 ∷ [])
    (c.push_named.ensures.items ∙ ap (λ n. c.args.page.now ++ (name ++ decimal n)) c.from.ensures) c.push_named-in-Some.ensures.items c.push_text.ensures)
