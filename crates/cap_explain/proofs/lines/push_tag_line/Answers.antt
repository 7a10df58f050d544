use Rattle.std.proofs.Common.{ap, codes, sym, ◌++◌, ◌∙◌, ◌∷◌}
use Rattle.cap_explain.specs.Explaining.{tag_line, tag_word, target_place}
use Rattle.cap_explain.proofs.Appends.{then}
use Rattle.cap_explain.proofs.lines.push_tag_line.Goals as goal

pub returns-in-Some-clause-items : goal.returns-in-Some-clause-items
returns-in-Some-clause-items c =
    let word = tag_word c.in-Some.tag in
    let target = c.args.target.now in
    let place = target_place target target.start in
    let last = c.push_tag_word.new.text in
    then c.args.text.now c.push_text.new.self last (codes "  tag ") (place ++ 32 ∷ word) c.push_text.ensures
    (then c.push_text.new.self c.push_target_place.new.text last place (32 ∷ word) c.push_target_place.ensures.items
    (then c.push_target_place.new.text c.push_text-in-Some.new.self last (codes " ") word c.push_text-in-Some.ensures c.push_tag_word.ensures.items))
    ∙ ap (λ tag. c.args.text.now ++ tag_line target tag) (sym c.in-Some.is)
