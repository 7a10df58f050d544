-- A node that a pointer leads to.
use Rattle.std.proofs.Common.{ap, ℕ, ◌+◌}
use Rattle.cap_calls.proofs.RangeShortcut.{node_of_elements, pointers_node}
use Rattle.cap_calls.proofs.calls.get_range.Shortcut.pointed.Goals as goal

pub returns : goal.returns
returns g c = λ m start step rest shortcut.
    let at = c.in-Pointers in
    let v = c.in_ok-view.view in
    let is = c.in_ok-view.ensures in
    let of = node_of_elements at.list v c.of.result c.of.ensures is.message in
    pointers_node m start step rest c.args.self.now at.list at.number (c.from.result + c.args.k) c.args.k v c.of.result is.low of
    at.j at.is (ap (λ (x : ℕ). x + c.args.k) c.from.ensures) is.given shortcut
