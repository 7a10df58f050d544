use Rattle.std.proofs.Common.{[], ap, codes, decimal, ◌++◌, ◌∙◌, ◌∷◌}
use Rattle.cap_explain.specs.Explaining.{input_text}
use Rattle.cap_explain.specs.Leading.{first_byte_of}
use Rattle.cap_explain.proofs.Appends.{then}
use Rattle.cap_explain.proofs.lines.push_byte_line.Goals as goal

pub returns-clause-items : goal.returns-clause-items
returns-clause-items g c =
    let old = c.args.text.now in
    let byte = first_byte_of c.args.numbers.has_table (g.M.Segments.segments c.args.message.now) c.args.segment c.args.word in
    let name = codes "  byte " in
    let place = codes " of the message" in
    let input = input_text c.args.numbers.start byte in
    let first = c.push_named.ensures.items ∙ ap (λ n. old ++ (name ++ decimal n)) c.first_byte_of-byte.ensures in
    let third = c.push_input_place.ensures.items ∙ ap (λ n. c.push_text.new.self ++ input_text c.args.numbers.start n) c.first_byte_of-byte.ensures in
    let rest = then c.push_text.new.self c.push_input_place.new.text c.push_text-2.new.self input (10 ∷ []) third c.push_text-2.ensures in
    then old c.push_named.new.self c.push_text-2.new.self (name ++ decimal byte) (place ++ (input ++ 10 ∷ [])) first
    (then c.push_named.new.self c.push_text.new.self c.push_text-2.new.self place (input ++ 10 ∷ []) c.push_text.ensures rest)
