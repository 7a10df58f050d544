use Rattle.cap_spec.proofs.ProofNames.{inr, rules, ◌<◌, ◌^◌, ◌∙◌, ◌≡◌, data_size, pointer_size}
use Rattle.cap_canon.proofs.InOrder.{struct_differs, struct_next}
use Rattle.cap_canon.proofs.in_order.struct_end.Goals as goal

pub returns-clause-some : goal.returns-clause-some
returns-clause-some g c =
    let a = c.args in
    let small : a.word < 2 ^ 64 = search rules in
    let d : c.from-data_words.result ≡ data_size a.word = c.from-data_words.ensures ∙ c.data_size.ensures in
    let p : c.from-pointers.result ≡ pointer_size a.word = c.from-pointers.ensures ∙ c.pointer_size.ensures in
    inr (struct_next (g.M.Segments.segments a.message.now) a.w a.word a.end a.cost c.requires.leads small c.requires.kind c.if-cost-eq0.false
    (rw (c.requires.first, d, p) at (c.needs_all.ensures.yes c.if-not-needs_all.false)))

pub returns-then-not-needs_all-clause-none : goal.returns-then-not-needs_all-clause-none
returns-then-not-needs_all-clause-none g c =
    let a = c.args in
    let d : c.from-data_words.result ≡ data_size a.word = c.from-data_words.ensures ∙ c.data_size.ensures in
    let p : c.from-pointers.result ≡ pointer_size a.word = c.from-pointers.ensures ∙ c.pointer_size.ensures in
    inr (struct_differs (g.M.Segments.segments a.message.now) a.w a.word a.end a.cost c.requires.leads c.requires.kind c.if-cost-eq0.false
    (rw (c.requires.first, d, p) at (c.needs_all.ensures.no c.if-not-needs_all.true)))
