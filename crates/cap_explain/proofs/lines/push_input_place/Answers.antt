use Rattle.std.proofs.Common.{ap, codes, decimal, min, ◌++◌, ◌+◌, ◌-◌, ◌^◌, ◌∙◌}
use Rattle.cap_explain.specs.Explaining.{of_unpacked_input}
use Rattle.cap_explain.proofs.Appends.{then}
use Rattle.cap_explain.proofs.lines.push_input_place.Goals as goal

pub returns-in-Some-clause-items : goal.returns-in-Some-clause-items
returns-in-Some-clause-items c =
    let old = c.args.text.now in
    let name = codes ", byte " in
    let mid = c.push_named.new.self in
    rw c.in-Some.is (then old mid c.push_text.new.self (name ++ decimal (min (c.in-Some.start.byte + c.args.byte) (2 ^ 64 - 1)))
    (of_unpacked_input c.in-Some.start.packed) (c.push_named.ensures.items ∙ ap (λ n. old ++ (name ++ decimal n)) c.saturating_add.ensures)
    (c.push_text.ensures ∙ ap (λ t. mid ++ t) c.of_unpacked_input.ensures.text))
