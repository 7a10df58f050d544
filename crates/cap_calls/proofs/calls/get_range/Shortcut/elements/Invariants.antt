use Rattle.cap_calls.specs.RangeShortcut.{IsShortcutNode, WritesFirst}
use Rattle.cap_calls.proofs.calls.get_range.Shortcut.elements.Given as goal

abbrev pub invariant-nodes : goal.invariant-nodes
invariant-nodes g l = WritesFirst (λ k node. IsShortcutNode l.self k node) l.k l.fn.nodes l.nodes
