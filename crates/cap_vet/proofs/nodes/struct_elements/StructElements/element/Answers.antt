-- The element is where its number says.
use Rattle.cap_vet.proofs.ElementPaths.{element_given, element_small, element_within}
use Rattle.cap_vet.proofs.nodes.struct_elements.StructElements.element.Goals as goal
use Rattle.cap_spec.proofs.ProofNames.{rules, arith, ◌<◌}

pub returns-clause-given : goal.returns-clause-given
returns-clause-given g c = λ start are.
    let e = c.args.self.now in
    let i = c.args.i in
    let lt : i < e.count = omega (arith, c.if-i-from.false, c.from.ensures) in
    element_given _ start e _ are e.exists i lt (element_within e.first e.count e.data_words e.pointers i _ e.inside
    lt) (search rules)

pub overflow_mul-i : goal.overflow_mul-i
overflow_mul-i g c =
    let small = element_small c.args.self.now c.args.i c.from.result c.from-2.result c.from-3.result
    (g.met.M.Segments.is_message c.args.self.now.message.now) c.if-i-from.false c.from.ensures c.from-2.ensures
    c.from-3.ensures in
    omega (arith, small)

pub overflow_add-self : goal.overflow_add-self
overflow_add-self g c =
    let small = element_small c.args.self.now c.args.i c.from.result c.from-2.result c.from-3.result
    (g.met.M.Segments.is_message c.args.self.now.message.now) c.if-i-from.false c.from.ensures c.from-2.ensures
    c.from-3.ensures in
    omega (arith, small)
