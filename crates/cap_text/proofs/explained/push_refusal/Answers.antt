use Rattle.cap_spec.proofs.ProofNames.{option_map, ◌++◌}
use Rattle.cap_text.specs.JsonLines.{path_member, place_members, reason_member, sentence_member}
use Rattle.cap_text.proofs.Appends.{then}
use Rattle.cap_text.proofs.explained.push_refusal.Goals as goal

pub returns-clause-items : goal.returns-clause-items
returns-clause-items c =
    let name = reason_member c.args.why.name.now in
    let place = place_members c.args.why.segment c.args.why.word c.args.why.pointers in
    let path = path_member (option_map (λ steps. steps.now) c.args.path) in
    let sentence = sentence_member c.args.sentence.now in
    then c.args.page.now c.push_path_member.new.page c.push_sentence.new.page ((name ++ place) ++ path) sentence
    (then c.args.page.now c.push_place_members.new.page c.push_path_member.new.page (name ++ place) path
    (then c.args.page.now c.push_reason.new.page c.push_place_members.new.page name place c.push_reason.ensures.items
    c.push_place_members.ensures.items) c.push_path_member.ensures.items) c.push_sentence.ensures.items
