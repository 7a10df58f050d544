use Rattle.cap_spec.proofs.ProofNames.{ap, arith, ◌+◌, ◌-◌, ◌<◌, ◌≤◌, rules}
use Rattle.cap_vet.specs.Views.{node_spot}
use Rattle.cap_text.specs.Dumping.{height}
use Rattle.cap_text.proofs.Dumping.{all_out, below, below_fails, child_fails, child_height, child_is_there}
use Rattle.cap_text.proofs.Dumping.{child_out, kind_shown, none_out}
use Rattle.cap_text.proofs.tree.+put_children.Goals as goal

pub loop-i-init : goal.loop-i-init
loop-i-init g t c = λ x d. none_out g.O.ByteOut c.args.level x c.kind-kind.result (c.args.out.now, c.args.page.now)

pub unreachable-requires : goal.unreachable-requires
unreachable-requires g t c = search (rules, kind_shown, child_is_there)

pub put_child-requires : goal.put_child-requires
put_child-requires g t c =
    let x = c.requires.low.0 in
    let low = below (node_spot c.in-Some.child) x (c.view.ensures.shows x c.requires.low.1) c.kind-kind.ensures.shows c.loop-i-test.true
    c.shown_count-i-end.ensures c.child_step.ensures (ap g.M.Segments.segments c.in-Some.ensures.message) (c.in-Some.ensures.part x c.requires.low.1) in
    let lower = child_height x c.kind-kind.result c.loop-i.i low.of_tree low.within low.tree low.at_i in
    omega (arith, lower, c.requires.low.2, c.requires.few)

pub overflow_sub-left : goal.overflow_sub-left
overflow_sub-left g t c =
    let x = c.requires.low.0 in
    let low = below (node_spot c.in-Some.child) x (c.view.ensures.shows x c.requires.low.1) c.kind-kind.ensures.shows c.loop-i-test.true
    c.shown_count-i-end.ensures c.child_step.ensures (ap g.M.Segments.segments c.in-Some.ensures.message) (c.in-Some.ensures.part x c.requires.low.1) in
    let lower = child_height x c.kind-kind.result c.loop-i.i low.of_tree low.within low.tree low.at_i in
    omega (arith, lower, c.requires.low.2, c.requires.few)

pub returns-in-Err : goal.returns-in-Err
returns-in-Err g t c = λ x d.
    let low = below (node_spot c.in-Some.child) x (c.view.ensures.shows x d) c.kind-kind.ensures.shows c.loop-i-test.true
    c.shown_count-i-end.ensures c.child_step.ensures (ap g.M.Segments.segments c.in-Some.ensures.message) (c.in-Some.ensures.part x d) in
    child_fails g.O.ByteOut c.args.level x c.kind-kind.result low.of_tree c.loop-i.i
    low.within low.tree low.at_i c.child_letter.result c.child_letter.ensures
    (c.args.out.now, c.args.page.now) (c.loop-i.out, c.loop-i.page) (c.put_child.new.out, c.put_child.new.page) c.in-Err.fault (c.loop-i.invariant x d)
    (c.in-Err.ensures low.tree low.denotes)

pub put_children-requires : goal.put_children-requires
put_children-requires g t c κs within =
    let x = c.requires.low.0 in
    let low = below (node_spot c.in-Some.child) x (c.view.ensures.shows x c.requires.low.1) c.kind-kind.ensures.shows c.loop-i-test.true
    c.shown_count-i-end.ensures c.child_step.ensures (ap g.M.Segments.segments c.in-Some.ensures.message) (c.in-Some.ensures.part x c.requires.low.1) in
    let lower = child_height x c.kind-kind.result c.loop-i.i low.of_tree low.within low.tree low.at_i in
    let few : c.args.level + 1 + (c.args.left - 1) ≤ 257 = omega (arith, lower, c.requires.low.2, c.requires.few) in
    let less : height low.tree ≤ c.args.left - 1 = omega (arith, lower, c.requires.low.2, c.requires.few) in
    let falls : c.args.left - 1 < t = omega (arith, lower, c.requires.low.2, c.decreases) in
    (falls, (within.0, (within.1, ((low.tree, low.denotes, less), few))))

pub returns-in-Err-put_children : goal.returns-in-Err-put_children
returns-in-Err-put_children g t c = λ x d.
    let low = below (node_spot c.in-Some.child) x (c.view.ensures.shows x d) c.kind-kind.ensures.shows c.loop-i-test.true
    c.shown_count-i-end.ensures c.child_step.ensures (ap g.M.Segments.segments c.in-Some.ensures.message) (c.in-Some.ensures.part x d) in
    below_fails g.O.ByteOut c.args.level x c.kind-kind.result low.of_tree c.loop-i.i
    low.within low.tree low.at_i c.child_letter.result c.child_letter.ensures
    (c.args.out.now, c.args.page.now) (c.loop-i.out, c.loop-i.page) (c.put_child.new.out, c.put_child.new.page)
    (c.put_children.new.out, c.put_children.new.page) c.in-Err-put_children.fault (c.loop-i.invariant x d)
    (c.in-Ok.ensures low.tree low.denotes) (c.in-Err-put_children.ensures low.tree low.denotes)

pub loop-i-preserved : goal.loop-i-preserved
loop-i-preserved g t c = search (rules, below, child_out)

pub returns : goal.returns
returns g t c = search (rules, all_out, kind_shown)
