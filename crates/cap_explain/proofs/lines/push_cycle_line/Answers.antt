use Rattle.std.proofs.Common.{[], ap, codes, decimal, ◌++◌, ◌∙◌, ◌∷◌}
use Rattle.cap_explain.specs.FormTexts.{segment_word_text}
use Rattle.cap_explain.proofs.Appends.{then}
use Rattle.cap_explain.proofs.lines.push_cycle_line.Goals as goal

pub returns-clause-items : goal.returns-clause-items
returns-clause-items c =
    let at = codes " at level " in
    let again = codes ", and returns to it at level " in
    let cycle = c.args.cycle in
    let place = segment_word_text cycle.segment cycle.word in
    let from = at ++ decimal cycle.from_level in
    let to = again ++ decimal cycle.to_level in
    let end = c.push_text-2.new.self in
    let placed = c.push_place.ensures.items ∙ ap (λ w. c.push_text.new.self ++ segment_word_text cycle.segment w) c.from.ensures in
    let first = c.push_named.ensures.items ∙ ap (λ n. c.push_place.new.self ++ (at ++ decimal n)) c.from-2.ensures in
    let second = c.push_named-2.ensures.items ∙ ap (λ n. c.push_named.new.self ++ (again ++ decimal n)) c.from-3.ensures in
    then c.args.text.now c.push_text.new.self end (codes "  cycle: the path reaches pointer word ") (place ++ (from ++ (to ++ 10 ∷ [])))
    c.push_text.ensures (then c.push_text.new.self c.push_place.new.self end place (from ++ (to ++ 10 ∷ [])) placed
    (then c.push_place.new.self c.push_named.new.self end from (to ++ 10 ∷ []) first
    (then c.push_named.new.self c.push_named-2.new.self end to (10 ∷ []) second c.push_text-2.ensures)))
