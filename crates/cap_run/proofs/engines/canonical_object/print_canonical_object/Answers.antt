use Rattle.cap_spec.proofs.ProofNames.{List, ap, most_depth, most_words, subst, ℕ, ◌++◌, ◌∙◌}
use Rattle.cap_vet.specs.VetNames.{depth_of, words_of}
use Rattle.cap_vet.specs.Vettings.{message_of}
use Rattle.cap_walk.specs.declared.report.Report.{Report}
use Rattle.cap_text.specs.JsonLines.{accepted_json}
use Rattle.cap_text.specs.Writing.{Writes}
use Rattle.cap_run.specs.Differing.{IsDifference, difference_members}
use Rattle.cap_run.specs.ExplainedJson.{IsMember}
use Rattle.cap_run.specs.Running.{counted_after}
use Rattle.cap_run.proofs.Differing.{difference_found}
use Rattle.cap_run.proofs.Explaining.{accepted_within}
use Rattle.cap_run.proofs.engines.canonical_object.print_canonical_object.Goals as goal

pub returns : goal.returns
returns g c =
    let m = g.M.Segments.segments (message_of c.args.vetted.now) in
    let seen = g.M.Segments.segments c.message-message.result.now in
    let n = c.args.number in
    let words = words_of c.args.limits in
    let depth = depth_of c.args.limits in
    let found = c.first_difference-difference.result in
    let w = c.write_object-written in
    let is_found = difference_found m found c.first_difference-difference.ensures.some c.first_difference-difference.ensures.canonical in
    let of_message = subst (λ (m : List (List ℕ)). let r = c.report-report.result in (h : IsDifference m found) → (member : List ℕ)
    × IsMember words depth m member × Writes g.O.ByteOut c.args.out.now w.new.out w.result
    (accepted_json n r.charge r.depth r.pointers r.caps (difference_members m found h ++ member)))
    (ap g.M.Segments.segments c.message-message.ensures.value)
    (w.ensures most_words (accepted_within seen most_words most_depth _ c.message-message.ensures.accepted)) in
    let (member, is_member, writes) = subst (λ (r : Report). (h : IsDifference m found) → (member : List ℕ) × IsMember words depth m member
    × Writes g.O.ByteOut c.args.out.now w.new.out w.result
    (accepted_json n r.charge r.depth r.pointers r.caps (difference_members m found h ++ member)))
    c.report-report.ensures.value of_message is_found in
    (found, is_found, member, is_member, w.result, writes, c.after_text.ensures ∙ ap (counted_after w.result) c.counted_by.ensures)
