use Rattle.cap_spec.proofs.ProofNames.{[], ap, append_assoc, codes, ◌++◌, ◌∙◌, ◌∷◌, hex}
use Rattle.cap_text.proofs.segments.word_line.Goals as goal

pub returns : goal.returns
returns c =
    c.push_text-2.ensures ∙ ap (λ l. l ++ 10 ∷ [])
    (c.push_hex.ensures.items ∙ ap (λ l. l ++ hex c.args.word) c.push_text.ensures
    ∙ append_assoc c.args.page.now (codes "root ") (hex c.args.word))
    ∙ append_assoc c.args.page.now (codes "root " ++ hex c.args.word) (10 ∷ [])
