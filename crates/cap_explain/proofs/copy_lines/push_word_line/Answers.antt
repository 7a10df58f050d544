use Rattle.std.proofs.Common.{[], codes, ◌++◌, ◌∷◌}
use Rattle.cap_spec.specs.Texts.{hex}
use Rattle.cap_explain.specs.CopyWords.{copied_text}
use Rattle.cap_explain.specs.FormTexts.{segment_word_text}
use Rattle.cap_explain.proofs.Appends.{then}
use Rattle.cap_explain.proofs.copy_lines.push_word_line.Goals as goal

pub returns : goal.returns
returns c =
    let place = segment_word_text c.args.differing.segment c.args.differing.word in
    let value = hex c.args.value in
    let copied = copied_text c.args.differing.copied in
    let rest = value ++ (copied ++ 10 ∷ []) in
    let last = c.push_text-3.new.self in
    then c.args.text.now c.push_text.new.self last (codes "  word ") (place ++ (32 ∷ rest)) c.push_text.ensures
    (then c.push_text.new.self c.push_place.new.self last place (32 ∷ rest) c.push_place.ensures.items
    (then c.push_place.new.self c.push_text-2.new.self last (codes " ") rest c.push_text-2.ensures
    (then c.push_text-2.new.self c.push_hex.new.self last value (copied ++ 10 ∷ []) c.push_hex.ensures.items
    (then c.push_hex.new.self c.push_copied.new.text last copied (10 ∷ []) c.push_copied.ensures.items c.push_text-3.ensures))))
