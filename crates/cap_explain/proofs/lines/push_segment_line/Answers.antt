use Rattle.std.proofs.Common.{[], codes, decimal, ◌++◌, ◌∷◌, ◌≡◌}
use Rattle.cap_explain.specs.Explaining.{segment_state}
use Rattle.cap_explain.proofs.Appends.{then}
use Rattle.cap_explain.proofs.lines.push_segment_line.Goals as goal

pub returns-clause-items : goal.returns-clause-items
returns-clause-items g c =
    let old = c.args.text.now in
    let named = c.push_named.new.self in
    let stated = c.push_segment_state.new.text in
    let name = codes "  leads into segment " ++ decimal c.args.segment in
    let state = segment_state (g.M.Segments.segments c.args.message.now) c.args.segment in
    let first : named ≡ old ++ name = rw (← c.from.ensures) c.push_named.ensures.items in
    then old stated c.push_text.new.self (name ++ state) (10 ∷ []) (then old named stated name state first c.push_segment_state.ensures.items)
    c.push_text.ensures
