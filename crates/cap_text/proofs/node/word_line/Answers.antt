use Rattle.cap_spec.proofs.ProofNames.{[], ap, append_assoc, decimal, replicate, ◌*◌, ◌++◌, ◌∙◌, ◌∷◌, ◌≡◌, hex, label}
use Rattle.cap_text.proofs.Nodes.{five_texts}
use Rattle.cap_text.proofs.node.word_line.Goals as goal

pub returns : goal.returns
returns c =
    let number : c.from.result ≡ c.args.i = cc in
    five_texts (c.args.page.now ++ replicate (2 * c.args.level) 32) (c.args.letter ∷ decimal c.args.i)
    (hex c.args.word) c.begin_line.new.page c.push_named.new.self c.push_text.new.self
    c.push_hex.new.self c.push_text-2.new.self c.begin_line.ensures.items
    (c.push_named.ensures.items ∙ ap (λ n. c.begin_line.new.page ++ (c.args.letter ∷ decimal n)) number)
    c.push_text.ensures c.push_hex.ensures.items c.push_text-2.ensures
    ∙ append_assoc c.args.page.now (replicate (2 * c.args.level) 32) (label c.args.letter c.args.i ++ 32 ∷ hex c.args.word ++ 10 ∷ [])
