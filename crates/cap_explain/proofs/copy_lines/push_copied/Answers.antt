use Rattle.std.proofs.Common.{ap, codes, sym, ◌++◌, ◌∙◌}
use Rattle.cap_spec.specs.Texts.{hex}
use Rattle.cap_explain.specs.CopyWords.{copied_text}
use Rattle.cap_explain.proofs.Appends.{then}
use Rattle.cap_explain.proofs.copy_lines.push_copied.Goals as goal

pub returns-in-Word-clause-items : goal.returns-in-Word-clause-items
returns-in-Word-clause-items c =
    then c.args.text.now c.push_text.new.self c.push_hex.new.self (codes ", the copy has ") (hex c.in-Word.word) c.push_text.ensures
    c.push_hex.ensures.items ∙ ap (λ copied. c.args.text.now ++ copied_text copied) (sym c.in-Word.is)
