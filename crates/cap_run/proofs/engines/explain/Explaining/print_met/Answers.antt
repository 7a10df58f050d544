use Rattle.cap_spec.proofs.ProofNames.{List, ap, refl, subst, ℕ, ◌++◌}
use Rattle.cap_vet.specs.VetNames.{depth_of, words_of}
use Rattle.cap_vet.specs.Vettings.{message_of}
use Rattle.cap_explain.specs.declared.numbers.MessageStart.{MessageStart}
use Rattle.cap_text.specs.Writing.{Writes}
use Rattle.cap_run.specs.Explained.{HasLinesAfter, RefusedByFilter, filter_lines, start_after}
use Rattle.cap_run.specs.declared.engines.stream.Counted.TheVariants.{Accepted, NotCanonical, Refused}
use Rattle.cap_run.proofs.Explaining.{stops_before, with_after, without_lines}
use Rattle.cap_run.proofs.Printing.{writes_text}
use Rattle.cap_run.proofs.engines.explain.Explaining.print_met.Goals as goal

pub returns-in-Ok-Accepted : goal.returns-in-Ok-Accepted
returns-in-Ok-Accepted g c = λ w t h.
    let v = c.args.self.now in
    let m = g.M.Segments.segments (message_of c.args.vetted.now) in
    let words = words_of v.limits in
    let depth = depth_of v.limits in
    let start = start_after v.packed c.args.before in
    let refusal = c.filter_refusal-refusal.result in
    let is_refused = subst (λ (m : List (List ℕ)). RefusedByFilter m words depth refusal)
    (ap g.M.Segments.segments c.message.ensures.value) c.filter_refusal-refusal.ensures in
    let (first, is_first, wrote) = rw c.in-Ok-Accepted.field-0-is at (c.in-Ok-Accepted.ensures w t h) in
    let after = subst (λ (m : List (List ℕ)). (h : RefusedByFilter m words depth refusal)
    → Writes g.O.ByteOut c.args.out.now c.write_filter_lines-written.new.out c.write_filter_lines-written.result
    (first ++ filter_lines m words depth c.start_after-start.result refusal h))
    (ap g.M.Segments.segments c.message-message.ensures.value) (λ h. c.write_filter_lines-written.ensures h c.args.out.now first wrote) is_refused in
    let lines = subst (λ (s : MessageStart).
    Writes g.O.ByteOut c.args.out.now c.write_filter_lines-written.new.out c.write_filter_lines-written.result
    (first ++ filter_lines m words depth s refusal is_refused)) c.start_after-start.ensures after in
    let texts = g.T.AcceptedPrinter.reports v.printer c.args.before (words_of v.limits) w depth c.args.number m in
    writes_text g.O.ByteOut (first ++ filter_lines m words depth start refusal is_refused) Accepted
    (HasLinesAfter v.packed words depth c.args.before m texts) (g.T.AcceptedPrinter.allocates v.printer w depth m)
    c.args.out.now c.write_filter_lines-written.new.out c.write_filter_lines-written.result c.after_text.result
    (with_after g.O.ByteOut v.packed words depth c.args.before m texts refusal is_refused first Accepted is_first)
    lines c.after_text.ensures

pub returns-in-Ok-Refused : goal.returns-in-Ok-Refused
returns-in-Ok-Refused g c = λ w t h.
    let v = c.args.self.now in
    let m = g.M.Segments.segments (message_of c.args.vetted.now) in
    let words = words_of v.limits in
    let depth = depth_of v.limits in
    let refusal = c.filter_refusal-refusal.result in
    let is_refused = subst (λ (m : List (List ℕ)). RefusedByFilter m words depth refusal)
    (ap g.M.Segments.segments c.message.ensures.value) c.filter_refusal-refusal.ensures in
    without_lines g.O.ByteOut v.packed words depth c.args.before m
    (g.T.AcceptedPrinter.reports v.printer c.args.before (words_of v.limits) w depth c.args.number m) refusal is_refused
    (g.T.AcceptedPrinter.allocates v.printer w depth m) c.args.out.now c.print_accepted.new.out Refused refl
    (rw c.in-Ok-Refused.field-0-is at (c.in-Ok-Refused.ensures w t h))

pub returns-in-Ok-NotCanonical : goal.returns-in-Ok-NotCanonical
returns-in-Ok-NotCanonical g c = λ w t h.
    let v = c.args.self.now in
    let m = g.M.Segments.segments (message_of c.args.vetted.now) in
    let words = words_of v.limits in
    let depth = depth_of v.limits in
    let refusal = c.filter_refusal-refusal.result in
    let is_refused = subst (λ (m : List (List ℕ)). RefusedByFilter m words depth refusal)
    (ap g.M.Segments.segments c.message.ensures.value) c.filter_refusal-refusal.ensures in
    without_lines g.O.ByteOut v.packed words depth c.args.before m
    (g.T.AcceptedPrinter.reports v.printer c.args.before (words_of v.limits) w depth c.args.number m) refusal is_refused
    (g.T.AcceptedPrinter.allocates v.printer w depth m) c.args.out.now c.print_accepted.new.out NotCanonical refl
    (rw c.in-Ok-NotCanonical.field-0-is at (c.in-Ok-NotCanonical.ensures w t h))

pub returns-in-Err : goal.returns-in-Err
returns-in-Err g c = λ w t h.
    let v = c.args.self.now in
    let m = g.M.Segments.segments (message_of c.args.vetted.now) in
    let words = words_of v.limits in
    let depth = depth_of v.limits in
    let refusal = c.filter_refusal-refusal.result in
    let is_refused = subst (λ (m : List (List ℕ)). RefusedByFilter m words depth refusal)
    (ap g.M.Segments.segments c.message.ensures.value) c.filter_refusal-refusal.ensures in
    stops_before g.O.ByteOut v.packed words depth c.args.before m
    (g.T.AcceptedPrinter.reports v.printer c.args.before (words_of v.limits) w depth c.args.number m) refusal is_refused
    (g.T.AcceptedPrinter.allocates v.printer w depth m) c.args.out.now c.print_accepted.new.out c.in-Err.cause (c.in-Err.ensures w t h)
