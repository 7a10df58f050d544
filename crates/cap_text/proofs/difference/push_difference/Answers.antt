use Rattle.cap_spec.proofs.ProofNames.{List, ap, codes, option_map, ℕ, ◌++◌, ◌∙◌}
use Rattle.cap_text.specs.DifferenceLines.{difference_name}
use Rattle.cap_text.specs.JsonLines.{reason_members}
use Rattle.cap_text.proofs.Appends.{both_then}
use Rattle.cap_text.proofs.difference.push_difference.Goals as goal

pub returns : goal.returns
returns c =
    let d = c.args.difference.now in
    let path = option_map (λ steps. steps.now) c.args.path in
    let members = reason_members (difference_name d.reason) d.segment d.word d.pointers path c.args.sentence.now in
    let named = c.push_refusal.ensures.items ∙ ap (λ (name : List ℕ). c.push_text.new.self ++ reason_members name d.segment d.word
    d.pointers path c.args.sentence.now) c.difference_name.ensures.name in
    both_then c.args.page.now c.push_text.new.self c.push_refusal.new.page c.push_text-2.new.self
    (codes ",\"canonical\":false,\"difference\":{") members (codes "}") c.push_text.ensures named c.push_text-2.ensures
