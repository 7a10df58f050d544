use Rattle.cap_spec.proofs.ProofNames.{[], ap, codes, decimal, ◌++◌, ◌∙◌, ◌∷◌, ◌≡◌, list_size}
use Rattle.cap_explain.specs.Explaining.{needed}
use Rattle.cap_explain.proofs.Appends.{then}
use Rattle.cap_explain.proofs.lines.push_elements_line.Goals as goal

pub returns-clause-items : goal.returns-clause-items
returns-clause-items c =
    let old = c.args.text.now in
    let name = codes "  elements need words " in
    let has = codes ", list has words " in
    let need = name ++ decimal (needed c.args.tag) in
    let size = has ++ decimal (list_size c.args.word) in
    let first : c.push_named.new.self ≡ old ++ need =
    c.push_named.ensures.items ∙ ap (λ d. old ++ (name ++ decimal d)) c.words_of_elements.ensures in
    let second : c.push_named-2.new.self ≡ c.push_named.new.self ++ size =
    c.push_named-2.ensures.items ∙ ap (λ d. c.push_named.new.self ++ (has ++ decimal d)) (c.from.ensures ∙ c.list_size.ensures) in
    then old c.push_named-2.new.self c.push_text.new.self (need ++ size) (10 ∷ [])
    (then old c.push_named.new.self c.push_named-2.new.self need size first second) c.push_text.ensures
