use Rattle.cap_spec.proofs.ProofNames.{List, [], ap, length, subst, sym, ℕ, ◌∙◌, ◌≤◌, strict_verdict}
use Rattle.cap_vet.specs.VetNames.{depth_of}
use Rattle.cap_explain.proofs.Reasons.{true_reason}
use Rattle.cap_text.specs.JsonLines.{accepted_json, filter_member}
use Rattle.cap_text.specs.Writing.{Writes}
use Rattle.cap_trace.specs.NamedPaths.{fault_path}
use Rattle.cap_run.specs.Explained.{filter_demands}
use Rattle.cap_run.specs.ExplainedJson.{FaultReason, plain_lines}
use Rattle.cap_run.specs.LastLines.{GivesReason}
use Rattle.cap_run.proofs.Reasons.{true_gives, true_short}
use Rattle.cap_run.proofs.engines.explained.write_filtered_object.Goals as goal

pub write_filtered_json-requires : goal.write_filtered_json-requires
write_filtered_json-requires g c =
    let m = g.M.Segments.segments c.args.message.now in
    let refusal = c.args.refusal.now in
    let (words, h) = c.requires in
    let reason : FaultReason filter_demands m words (depth_of c.args.limits) refusal =
    true_reason filter_demands m words (depth_of c.args.limits) refusal [] _ h in
    let said = c.last_reason-sentence.ensures reason.sentence (subst (λ (lines : List ℕ). GivesReason lines reason.sentence)
    (sym (c.text.ensures.lines ∙ c.reason_lines-lines.ensures)) (true_gives m _ _ _ _ (plain_lines m refusal) reason)) in
    subst (λ (s : List ℕ). length s ≤ 120) (sym said) (true_short m _ _ _ _ (plain_lines m refusal) reason)

pub returns : goal.returns
returns g c = λ words h reason.
    let m = g.M.Segments.segments c.args.message.now in
    let refusal = c.args.refusal.now in
    let depth = depth_of c.args.limits in
    let n = c.args.number in
    let r = c.args.report.now in
    let said = c.last_reason-sentence.ensures reason.sentence (subst (λ (lines : List ℕ). GivesReason lines reason.sentence)
    (sym (c.text.ensures.lines ∙ c.reason_lines-lines.ensures)) (true_gives m _ _ _ _ (plain_lines m refusal) reason)) in
    let text = ap (λ path. accepted_json n r.charge r.depth r.pointers r.caps
    (filter_member (strict_verdict refusal) path c.last_reason-sentence.result.now))
    (c.steps.ensures ∙ c.find_refused.ensures filter_demands words h)
    ∙ ap (λ (s : List ℕ). accepted_json n r.charge r.depth r.pointers r.caps
    (filter_member (strict_verdict refusal) (fault_path filter_demands m words depth refusal h) s)) said in
    subst (λ (t : List ℕ). Writes g.O.ByteOut c.args.out.now c.write_filtered_json.new.out c.write_filtered_json.result t) text
    c.write_filtered_json.ensures
