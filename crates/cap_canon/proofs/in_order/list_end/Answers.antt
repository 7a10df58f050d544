use Rattle.cap_spec.proofs.ProofNames.{arith, inr, rules, sym, ◌<◌, ◌^◌, ◌∙◌, code}
use Rattle.cap_canon.proofs.InOrder.{pointers_next, values_next}
use Rattle.cap_canon.proofs.in_order.list_end.Goals as goal

pub returns-then-code-eq6-clause-some : goal.returns-then-code-eq6-clause-some
returns-then-code-eq6-clause-some g c =
    let a = c.args in
    let small : a.word < 2 ^ 64 = search rules in
    inr (pointers_next (g.M.Segments.segments a.message.now) a.w a.word a.end a.cost c.requires.leads small c.requires.kind
    (sym c.code-code.ensures ∙ c.if-code-eq6.true))

pub returns-then-ends_with_values-clause-some : goal.returns-then-ends_with_values-clause-some
returns-then-ends_with_values-clause-some g c =
    let a = c.args in
    let small : a.word < 2 ^ 64 = search rules in
    let some : 0 < code a.word = omega (arith, c.code-code.ensures, c.if-code-eq0.false) in
    let few : code a.word < 6 = omega (arith, c.code-code.ensures, c.if-code-eq6.false, c.if-code-eq7.false) in
    inr (values_next (g.M.Segments.segments a.message.now) a.w a.word a.end a.cost c.requires.leads small c.requires.kind some few
    (rw (c.code-code.ensures, c.list_size.ensures) at (c.ends_with_values.ensures.0 c.if-ends_with_values.true)))
