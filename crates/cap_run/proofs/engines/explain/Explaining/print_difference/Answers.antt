use Rattle.cap_spec.proofs.ProofNames.{List, ap, most_depth, most_words, subst, true, ℕ, ◌++◌, ◌∙◌}
use Rattle.cap_vet.specs.VetNames.{depth_of, words_of}
use Rattle.cap_vet.specs.Vettings.{message_of}
use Rattle.cap_explain.specs.declared.numbers.MessageStart.{MessageStart}
use Rattle.cap_text.specs.Writing.{Writes}
use Rattle.cap_run.specs.Differing.{IsDifference, OrDifference, counted_by, difference_lines}
use Rattle.cap_run.specs.Explained.{HasLinesAfter, start_after}
use Rattle.cap_run.specs.Running.{counted_after}
use Rattle.cap_run.specs.declared.engines.stream.Counted.TheVariants.{NotCanonical, Refused}
use Rattle.cap_run.proofs.Differing.{difference_found, difference_stops, no_difference, with_difference}
use Rattle.cap_run.proofs.Explaining.{accepted_within}
use Rattle.cap_run.proofs.Printing.{writes_text}
use Rattle.cap_run.proofs.engines.explain.Explaining.print_difference.Goals as goal

pub returns-in-Ok-Accepted : goal.returns-in-Ok-Accepted
returns-in-Ok-Accepted g c = λ w t h.
    let v = c.args.self.now in
    let m = g.M.Segments.segments (message_of c.args.vetted.now) in
    let depth = depth_of v.limits in
    let start = start_after v.packed c.args.before in
    let found = c.first_difference-difference.result in
    let is_found = difference_found m found c.first_difference-difference.ensures.some c.first_difference-difference.ensures.canonical in
    let texts = HasLinesAfter v.packed (words_of v.limits) depth c.args.before m
    (g.T.AcceptedPrinter.reports v.printer c.args.before (words_of v.limits) w depth c.args.number m) in
    let (first, is_first, wrote) = rw c.in-Ok-Accepted.field-0-is at (c.in-Ok-Accepted.ensures w t h) in
    let lines = c.write_difference_lines-written in
    let seen = g.M.Segments.segments c.message-message.result.now in
    let writes = subst (λ (m : List (List ℕ)). (h : IsDifference m found) → Writes g.O.ByteOut c.args.out.now lines.new.out lines.result
    (first ++ difference_lines m c.args.number c.start_after-start.result found h))
    (ap g.M.Segments.segments c.message-message.ensures.value)
    (λ h. lines.ensures most_words (accepted_within seen most_words most_depth _ c.message-message.ensures.accepted) h c.args.out.now first wrote)
    is_found in
    let written = subst (λ (s : MessageStart). Writes g.O.ByteOut c.args.out.now lines.new.out lines.result
    (first ++ difference_lines m c.args.number s found is_found)) c.start_after-start.ensures writes in
    writes_text g.O.ByteOut (first ++ difference_lines m c.args.number start found is_found) (counted_by found)
    (OrDifference true start c.args.number m texts) (g.T.AcceptedPrinter.allocates v.printer w depth m)
    c.args.out.now lines.new.out lines.result c.after_text.result
    (with_difference g.O.ByteOut start c.args.number m texts (g.T.AcceptedPrinter.allocates v.printer w depth m) found is_found first is_first)
    written (c.after_text.ensures ∙ ap (counted_after lines.result) c.counted_by.ensures)

pub returns-in-Ok-Refused : goal.returns-in-Ok-Refused
returns-in-Ok-Refused g c = λ w t h.
    let v = c.args.self.now in
    let m = g.M.Segments.segments (message_of c.args.vetted.now) in
    let depth = depth_of v.limits in
    let found = c.first_difference-difference.result in
    no_difference g.O.ByteOut (start_after v.packed c.args.before) c.args.number m
    (HasLinesAfter v.packed (words_of v.limits) depth c.args.before m (g.T.AcceptedPrinter.reports v.printer c.args.before (words_of v.limits) w depth c.args.number m))
    (g.T.AcceptedPrinter.allocates v.printer w depth m) found
    (difference_found m found c.first_difference-difference.ensures.some c.first_difference-difference.ensures.canonical)
    c.args.out.now c.print_met.new.out Refused (λ e. (cc)) (rw c.in-Ok-Refused.field-0-is at (c.in-Ok-Refused.ensures w t h))

pub returns-in-Ok-NotCanonical : goal.returns-in-Ok-NotCanonical
returns-in-Ok-NotCanonical g c = λ w t h.
    let v = c.args.self.now in
    let m = g.M.Segments.segments (message_of c.args.vetted.now) in
    let depth = depth_of v.limits in
    let found = c.first_difference-difference.result in
    no_difference g.O.ByteOut (start_after v.packed c.args.before) c.args.number m
    (HasLinesAfter v.packed (words_of v.limits) depth c.args.before m (g.T.AcceptedPrinter.reports v.printer c.args.before (words_of v.limits) w depth c.args.number m))
    (g.T.AcceptedPrinter.allocates v.printer w depth m) found
    (difference_found m found c.first_difference-difference.ensures.some c.first_difference-difference.ensures.canonical)
    c.args.out.now c.print_met.new.out NotCanonical (λ e. (cc)) (rw c.in-Ok-NotCanonical.field-0-is at (c.in-Ok-NotCanonical.ensures w t h))

pub returns-in-Err : goal.returns-in-Err
returns-in-Err g c = λ w t h.
    let v = c.args.self.now in
    let m = g.M.Segments.segments (message_of c.args.vetted.now) in
    let depth = depth_of v.limits in
    let found = c.first_difference-difference.result in
    difference_stops g.O.ByteOut (start_after v.packed c.args.before) c.args.number m
    (HasLinesAfter v.packed (words_of v.limits) depth c.args.before m (g.T.AcceptedPrinter.reports v.printer c.args.before (words_of v.limits) w depth c.args.number m))
    (g.T.AcceptedPrinter.allocates v.printer w depth m) found
    (difference_found m found c.first_difference-difference.ensures.some c.first_difference-difference.ensures.canonical)
    c.args.out.now c.print_met.new.out c.in-Err.cause (c.in-Err.ensures w t h)
