use Rattle.cap_spec.proofs.ProofNames.{ap, sym, ◌++◌, ◌+◌, ◌∙◌, ◌≡◌, far_segment, pad}
use Rattle.cap_explain.specs.Explaining.{landing_lines, pad_line}
use Rattle.cap_explain.proofs.Appends.{then}
use Rattle.cap_explain.proofs.lines.push_landing_lines.Goals as goal

pub returns-in-Two-clause-items : goal.returns-in-Two-clause-items
returns-in-Two-clause-items c =
    let p = c.args.word in
    let far = pad_line (far_segment p) (pad p) c.in-Two.far in
    let tag = pad_line (far_segment p) (pad p + 1) c.in-Two.tag in
    let first : c.push_pad_line-in-Two.new.text ≡ c.args.text.now ++ far =
    c.push_pad_line-in-Two.ensures.items ∙ ap (λ s. c.args.text.now ++ pad_line s c.pad-in-Two.result c.in-Two.far) c.far_segment-in-Two.ensures
    ∙ ap (λ w. c.args.text.now ++ pad_line (far_segment p) w c.in-Two.far) c.pad-in-Two.ensures in
    let second : c.push_pad_line-in-Two-2.new.text ≡ c.push_pad_line-in-Two.new.text ++ tag =
    c.push_pad_line-in-Two-2.ensures.items
    ∙ ap (λ s. c.push_pad_line-in-Two.new.text ++ pad_line s (c.pad-in-Two-2.result + 1) c.in-Two.tag) c.far_segment-in-Two-2.ensures
    ∙ ap (λ w. c.push_pad_line-in-Two.new.text ++ pad_line (far_segment p) (w + 1) c.in-Two.tag) c.pad-in-Two-2.ensures in
    then c.args.text.now c.push_pad_line-in-Two.new.text c.push_pad_line-in-Two-2.new.text far tag first second
    ∙ ap (λ landing. c.args.text.now ++ landing_lines p landing) (sym c.in-Two.is)
