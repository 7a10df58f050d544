-- Each element has its node.
use Rattle.std.proofs.Common.{ap, arith, length, refl, subst, ℕ, ◌+◌, ◌<◌, ◌≡◌}
use Rattle.cap_calls.specs.CallNames.{HasCount, IsShortcutNode, WritesFirst, Shortcut, Elements}
use Rattle.cap_calls.proofs.RangeGotten.{more_written, none_written}
use Rattle.cap_calls.proofs.RangeShortcut.{elements_node, node_in_segment}
use Rattle.cap_calls.proofs.calls.get_range.Shortcut.elements.Goals as goal

pub nodes-init : goal.nodes-init
nodes-init g c = none_written _ _

pub nodes-preserved : goal.nodes-preserved
nodes-preserved g c =
    let shortcut = c.args.self.now in
    let list = c.in-Elements.list in
    let number = c.in-Elements.number in
    let m = g.M.Segments.segments list.message.now in
    let v = c.in-Some.view in
    let node = c.in_segment.result in
    let is = c.in-Some.ensures in
    let count : HasCount c.args.segments (Elements list number) =
    subst (λ (x : Shortcut g.row.M.Denot g.M.Segments). HasCount c.args.segments x) c.in-Elements.is c.requires in
    let of = node_in_segment m v.found.kind c.args.segments c.words_before.result c.bytes_before-before.result list.segment
    v.found.place.segment v.found.place.start node count c.words_before.ensures.value is.segment c.bytes_before-before.ensures.value
    c.in_segment.ensures in
    let has : IsShortcutNode shortcut c.nodes.k node = λ m start step rest found.
    elements_node m start step rest shortcut list number (c.from-first.result + c.nodes.k) c.nodes.k v node is.low of c.in-Elements.is
    (ap (λ (x : ℕ). x + c.nodes.k) c.from-first.ensures) is.given found in
    let lt : c.nodes.k < length c.nodes.nodes = omega (arith, c.nodes-test.true, c.nodes.invariant.size) in
    more_written (λ k n. IsShortcutNode shortcut k n) _ c.nodes.nodes _ c.nodes.k node c.nodes.invariant lt has refl

pub returns : goal.returns
returns g c =
    let all : c.nodes.k ≡ length c.nodes.nodes = omega (arith, c.nodes-test.false, c.nodes.auto.k-end, c.nodes.invariant.size) in
    subst (λ (n : ℕ). WritesFirst (λ k node. IsShortcutNode c.args.self.now k node) n c.args.nodes.now c.nodes.nodes) all c.nodes.invariant
