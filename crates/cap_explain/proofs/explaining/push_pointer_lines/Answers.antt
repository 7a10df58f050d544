use Rattle.std.proofs.Common.{◌++◌, ◌≡◌}
use Rattle.cap_explain.specs.Explaining.{byte_line, landing_lines, pointer_line, segment_line, target_lines}
use Rattle.cap_explain.specs.Leading.{segment_after}
use Rattle.cap_explain.proofs.Appends.{then}
use Rattle.cap_explain.proofs.explaining.push_pointer_lines.Goals as goal

pub returns-clause-items : goal.returns-clause-items
returns-clause-items g c =
    let m = g.M.Segments.segments c.args.message.now in
    let p = c.args.pointer in
    let old = c.args.text.now in
    let byte = c.push_byte_line.new.text in
    let pointer = c.push_pointer_line.new.text in
    let landing = c.push_landing_lines.new.text in
    let target = c.push_target_lines.new.text in
    let first = byte_line m c.args.numbers p.segment p.word in
    let second = pointer_line p.value in
    let third = landing_lines p.value p.landing in
    let fourth = target_lines m c.args.target.now in
    let last = segment_line m (segment_after p.segment p.value p.landing) in
    let to_last : c.push_segment_line.new.text ≡ target ++ last = rw (← c.segment_after-last.ensures) c.push_segment_line.ensures.items in
    then old target c.push_segment_line.new.text (first ++ second ++ third ++ fourth) last
    (then old landing target (first ++ second ++ third) fourth
    (then old pointer landing (first ++ second) third
    (then old byte pointer first second c.push_byte_line.ensures.items c.push_pointer_line.ensures.items) c.push_landing_lines.ensures.items)
    c.push_target_lines.ensures.items) to_last
