-- The pointer is where the two numbers say.
use Rattle.std.proofs.Common.{arith, refl, ◌*◌, ◌+◌, ◌<◌}
use Rattle.cap_vet.proofs.ElementPaths.{element_small, element_within, pointer_given}
use Rattle.cap_vet.proofs.nodes.struct_elements.StructElements.pointer.Goals as goal

pub returns-clause-given : goal.returns-clause-given
returns-clause-given g c = λ start are.
    let e = c.args.self.now in
    let i = c.args.i in
    let lt : i < e.count = omega (arith, c.if-i-from.false, c.from.ensures) in
    let w = e.first + i * (c.from-2.result + c.from-3.result) + c.from-4.result + c.from-5.result in
    pointer_given _ start e _ are e.exists i lt (element_within e.first e.count e.data_words e.pointers i _ e.inside lt)
    c.args.j w c.in_ok-found.field-0-1 (omega (arith, c.if-j-self.false))
    (rw (c.from-2.ensures, c.from-3.ensures, c.from-4.ensures, c.from-5.ensures) refl) c.in_ok-found.ensures.found

pub overflow_mul-start : goal.overflow_mul-start
overflow_mul-start g c =
    let small = element_small c.args.self.now c.args.i c.from.result c.from-2.result c.from-3.result
    (g.met.M.Segments.is_message c.args.self.now.message.now) c.if-i-from.false c.from.ensures c.from-2.ensures
    c.from-3.ensures in
    omega (arith, small)

pub overflow_add-start : goal.overflow_add-start
overflow_add-start g c =
    let small = element_small c.args.self.now c.args.i c.from.result c.from-2.result c.from-3.result
    (g.met.M.Segments.is_message c.args.self.now.message.now) c.if-i-from.false c.from.ensures c.from-2.ensures
    c.from-3.ensures in
    omega (arith, small)

pub overflow_add-word : goal.overflow_add-word
overflow_add-word g c =
    let small = element_small c.args.self.now c.args.i c.from.result c.from-2.result c.from-3.result
    (g.met.M.Segments.is_message c.args.self.now.message.now) c.if-i-from.false c.from.ensures c.from-2.ensures
    c.from-3.ensures in
    omega (arith, small)

pub overflow_add-word-2 : goal.overflow_add-word-2
overflow_add-word-2 g c =
    let small = element_small c.args.self.now c.args.i c.from.result c.from-2.result c.from-3.result
    (g.met.M.Segments.is_message c.args.self.now.message.now) c.if-i-from.false c.from.ensures c.from-2.ensures
    c.from-3.ensures in
    omega (arith, small)
