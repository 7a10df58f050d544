use Rattle.cap_vet.proofs.AtSomePlace.{at_some_place_element, at_some_place_entry}
use Rattle.cap_vet.proofs.Stepping.{element_goes, element_inside, entry_goes, entry_inside}
use Rattle.cap_vet.proofs.nodes.found.Found.item.Goals as goal
use Rattle.cap_spec.proofs.ProofNames.{rules, arith}

pub returns-else-i-count : goal.returns-else-i-count
returns-else-i-count c = λ m a h. search (rules, entry_goes, entry_inside)

pub returns-else-i-count-2 : goal.returns-else-i-count-2
returns-else-i-count-2 c = λ m a h. rw (c.from.ensures, c.from-in-Structs.ensures)
    (search (rules, element_goes, element_inside))

pub overflow_add-result : goal.overflow_add-result
overflow_add-result c =
    let l = at_some_place_entry c.args.self.now _ c.args.i c.requires c.in-Pointers.is (search rules) in
    omega (arith, l)

pub overflow_add-result-in-Structs : goal.overflow_add-result-in-Structs
overflow_add-result-in-Structs c =
    let l = at_some_place_element c.args.self.now _ _ _ c.args.i c.requires c.in-Structs.is (search rules) in
    omega (arith, l)

pub overflow_mul-result : goal.overflow_mul-result
overflow_mul-result c = rw (c.from.ensures, c.from-in-Structs.ensures)
    (let l = at_some_place_element c.args.self.now _ _ _ c.args.i c.requires c.in-Structs.is (omega (arith, c.if-i-count-2.false)) in
    omega (arith, l))

pub overflow_add-result-in-Structs-2 : goal.overflow_add-result-in-Structs-2
overflow_add-result-in-Structs-2 c = rw (c.from.ensures, c.from-in-Structs.ensures)
    (let l = at_some_place_element c.args.self.now _ _ _ c.args.i c.requires c.in-Structs.is (omega (arith, c.if-i-count-2.false)) in
    omega (arith, l))
