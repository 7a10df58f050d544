use Rattle.std.proofs.Common.{[], ap, codes, decimal, ◌++◌, ◌+◌, ◌∙◌, ◌∷◌, ◌≡◌}
use Rattle.cap_explain.proofs.Appends.{then}
use Rattle.cap_explain.proofs.lines.push_level_line.Goals as goal

pub returns-clause-items : goal.returns-clause-items
returns-clause-items c =
    let level = codes "  level " ++ decimal (c.args.depth + 1) in
    let most = codes ", limit " ++ decimal c.args.depth in
    let first : c.push_named.new.self ≡ c.args.text.now ++ level =
    c.push_named.ensures.items ∙ ap (λ d. c.args.text.now ++ (codes "  level " ++ decimal (d + 1))) c.from.ensures in
    let second : c.push_named-2.new.self ≡ c.push_named.new.self ++ most =
    c.push_named-2.ensures.items ∙ ap (λ d. c.push_named.new.self ++ (codes ", limit " ++ decimal d)) c.from-2.ensures in
    then c.args.text.now c.push_named-2.new.self c.push_text.new.self (level ++ most) (10 ∷ [])
    (then c.args.text.now c.push_named.new.self c.push_named-2.new.self level most first second) c.push_text.ensures
