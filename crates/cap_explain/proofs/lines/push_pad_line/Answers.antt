use Rattle.std.proofs.Common.{codes, ◌++◌, ◌∷◌}
use Rattle.cap_explain.specs.Explaining.{word_text}
use Rattle.cap_explain.specs.FormTexts.{segment_word_text}
use Rattle.cap_explain.proofs.Appends.{then}
use Rattle.cap_explain.proofs.lines.push_pad_line.Goals as goal

pub returns-clause-items : goal.returns-clause-items
returns-clause-items c =
    let word = word_text c.args.word in
    let place = segment_word_text c.args.segment c.args.place in
    then c.args.text.now c.push_text.new.self c.push_word.new.text (codes "  pad ") (place ++ 32 ∷ word) c.push_text.ensures
    (then c.push_text.new.self c.push_place.new.self c.push_word.new.text place (32 ∷ word) c.push_place.ensures.items
    (then c.push_place.new.self c.push_text-2.new.self c.push_word.new.text (codes " ") word c.push_text-2.ensures c.push_word.ensures.items))
