use Rattle.std.proofs.Common.{ap, append_assoc, arith, codes, length, subst, sum, sym, ◌++◌, ◌∙◌, ◌≡◌}
use Rattle.cap_spec.specs.Texts.{line, message_text, root_text, segment_lines, then_number}
use Rattle.cap_frame.specs.Outlines.{root_in, sizes_in}
use Rattle.cap_text.specs.TextNames.{Added, Stopped, Writes}
use Rattle.cap_text.proofs.Paging.{added_then, halted_more, halted_then}
use Rattle.cap_text.proofs.segments.write_segments.Goals as goal

pub returns-in-Err : goal.returns-in-Err
returns-in-Err g c =
    let sizes = sizes_in c.args.outline.now in
    let front = message_text c.args.number (codes "segments" ++ then_number (length sizes) ++ codes " words" ++ then_number (sum sizes)) in
    let root = line 0 (codes "root " ++ root_text (root_in c.args.outline.now)) in
    let is : c.head_line.new.page ≡ front = cc in
    subst (Stopped g.O.ByteOut c.args.out.now c.put_segment_lines.new.out c.in-Err.fault)
    (ap (λ l. l ++ (segment_lines 0 sizes ++ root)) is ∙ sym (append_assoc front (segment_lines 0 sizes) root))
    (halted_more g.O.ByteOut (c.args.out.now, c.head_line.new.page)
    (c.put_segment_lines.new.out, c.put_segment_lines.new.page) c.in-Err.fault
    (segment_lines 0 sizes) root c.in-Err.ensures)

pub returns-in-Err-put_root_line : goal.returns-in-Err-put_root_line
returns-in-Err-put_root_line g c =
    let sizes = sizes_in c.args.outline.now in
    let front = message_text c.args.number (codes "segments" ++ then_number (length sizes) ++ codes " words" ++ then_number (sum sizes)) in
    let root = line 0 (codes "root " ++ root_text c.root.result) in
    let is : c.head_line.new.page ≡ front = cc in
    subst (Stopped g.O.ByteOut c.args.out.now c.put_root_line.new.out c.in-Err-put_root_line.fault)
    (ap (λ l. l ++ (segment_lines 0 sizes ++ root)) is ∙ sym (append_assoc front (segment_lines 0 sizes) root)
    ∙ ap (λ r. front ++ segment_lines 0 sizes ++ line 0 (codes "root " ++ root_text r)) c.root.ensures)
    (halted_then g.O.ByteOut (c.args.out.now, c.head_line.new.page)
    (c.put_segment_lines.new.out, c.put_segment_lines.new.page) (c.put_root_line.new.out, c.put_root_line.new.page)
    c.in-Err-put_root_line.fault
    (segment_lines 0 sizes) root c.in-Ok.ensures c.in-Err-put_root_line.ensures)

pub returns-in-Ok-put_root_line : goal.returns-in-Ok-put_root_line
returns-in-Ok-put_root_line g c =
    let sizes = sizes_in c.args.outline.now in
    let front = message_text c.args.number (codes "segments" ++ then_number (length sizes) ++ codes " words" ++ then_number (sum sizes)) in
    let root = line 0 (codes "root " ++ root_text c.root.result) in
    let is : c.head_line.new.page ≡ front = cc in
    let added : Added g.O.ByteOut (c.args.out.now, front) (c.put_root_line.new.out, c.put_root_line.new.page) (segment_lines 0 sizes ++ root) =
    subst (λ held. Added g.O.ByteOut (c.args.out.now, held) (c.put_root_line.new.out, c.put_root_line.new.page) (segment_lines 0 sizes ++ root)) is
    (added_then g.O.ByteOut (c.args.out.now, c.head_line.new.page)
    (c.put_segment_lines.new.out, c.put_segment_lines.new.page) (c.put_root_line.new.out, c.put_root_line.new.page)
    (segment_lines 0 sizes) root c.in-Ok.ensures c.in-Ok-put_root_line.ensures) in
    subst (Writes g.O.ByteOut c.args.out.now c.write_page.new.out c.write_page.result)
    (sym (append_assoc front (segment_lines 0 sizes) root) ∙ ap (λ r. front ++ segment_lines 0 sizes ++ line 0 (codes "root " ++ root_text r)) c.root.ensures)
    (c.write_page.ensures c.args.out.now front (segment_lines 0 sizes ++ root) (omega arith) added)
