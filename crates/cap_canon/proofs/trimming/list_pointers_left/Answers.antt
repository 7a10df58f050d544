use Rattle.cap_canon.proofs.Elements.{buffered, children_seen, enough_children, no_children_seen}
use Rattle.cap_canon.proofs.Needed.{element_small}
use Rattle.cap_canon.proofs.trimming.list_pointers_left.Goals as goal
use Rattle.cap_spec.proofs.ProofNames.{arith, rules}

pub elements-init : goal.elements-init
elements-init g c = no_children_seen (g.M.Segments.segments c.args.message.now) c.args.segment c.args.start c.args.data_words c.args.pointers c.args.count

pub returns-then-most-pointers-clause-value : goal.returns-then-most-pointers-clause-value
returns-then-most-pointers-clause-value g c = search (rules, enough_children)

pub pointers_left-most-requires-clause-denote : goal.pointers_left-most-requires-clause-denote
pointers_left-most-requires-clause-denote g c =
    let r = c.requires.elements in
    let k = buffered r.1 r.2 c.elements-test.true c.elements.invariant r.3 in
    (k.children, k.parts.c1, k.parts.d1, k.parts.children)

pub elements-preserved : goal.elements-preserved
elements-preserved g c = search (rules, children_seen)

pub overflow_add-at : goal.overflow_add-at
overflow_add-at g c =
    let small = element_small (g.M.Segments.segments c.args.message.now) c.args.segment c.args.start c.elements.at
    c.args.data_words c.args.pointers c.args.count c.elements.counter (g.met.M.Segments.is_message c.args.message.now)
    c.requires.exists c.requires.inside c.elements.invariant.place c.elements-test.true in
    omega (arith, small)

pub overflow_add-at-in-elements-2 : goal.overflow_add-at-in-elements-2
overflow_add-at-in-elements-2 g c =
    let small = element_small (g.M.Segments.segments c.args.message.now) c.args.segment c.args.start c.elements.at
    c.args.data_words c.args.pointers c.args.count c.elements.counter (g.met.M.Segments.is_message c.args.message.now)
    c.requires.exists c.requires.inside c.elements.invariant.place c.elements-test.true in
    omega (arith, small)
