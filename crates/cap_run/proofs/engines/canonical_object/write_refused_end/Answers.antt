use Rattle.cap_spec.proofs.ProofNames.{List, [], ap, codes, length, subst, sym, ℕ, ◌++◌, ◌∙◌, ◌≤◌, strict_verdict}
use Rattle.cap_vet.specs.VetNames.{depth_of}
use Rattle.cap_explain.proofs.Reasons.{true_reason}
use Rattle.cap_text.specs.JsonLines.{filter_member}
use Rattle.cap_text.specs.Writing.{Writes}
use Rattle.cap_trace.specs.NamedPaths.{fault_path}
use Rattle.cap_run.specs.Explained.{filter_demands}
use Rattle.cap_run.specs.ExplainedJson.{FaultReason, plain_lines}
use Rattle.cap_run.specs.LastLines.{GivesReason}
use Rattle.cap_run.proofs.Reasons.{true_gives, true_short}
use Rattle.cap_run.proofs.engines.canonical_object.write_refused_end.Goals as goal

pub write_filtered_end-requires : goal.write_filtered_end-requires
write_filtered_end-requires g c =
    let m = g.M.Segments.segments c.args.message.now in
    let refusal = c.args.refusal.now in
    let (words, h) = c.requires in
    let reason : FaultReason filter_demands m words (depth_of c.args.limits) refusal =
    true_reason filter_demands m words (depth_of c.args.limits) refusal [] _ h in
    let said = c.last_reason-sentence.ensures reason.sentence (subst (λ (lines : List ℕ). GivesReason lines reason.sentence)
    (sym (c.text.ensures.lines ∙ c.reason_lines-lines.ensures)) (true_gives m _ _ _ _ (plain_lines m refusal) reason)) in
    subst (λ (s : List ℕ). length s ≤ 120) (sym said) (true_short m _ _ _ _ (plain_lines m refusal) reason)

pub returns : goal.returns
returns g c = λ words h reason.
    let m = g.M.Segments.segments c.args.message.now in
    let refusal = c.args.refusal.now in
    let depth = depth_of c.args.limits in
    let said = c.last_reason-sentence.ensures reason.sentence (subst (λ (lines : List ℕ). GivesReason lines reason.sentence)
    (sym (c.text.ensures.lines ∙ c.reason_lines-lines.ensures)) (true_gives m _ _ _ _ (plain_lines m refusal) reason)) in
    let text = ap (λ path. filter_member (strict_verdict refusal) path
    c.last_reason-sentence.result.now ++ codes "}\n")
    (c.steps.ensures ∙ c.find_refused.ensures filter_demands words h)
    ∙ ap (λ (s : List ℕ). filter_member (strict_verdict refusal)
    (fault_path filter_demands m words depth refusal h) s ++ codes "}\n") said in
    subst (λ (t : List ℕ). Writes g.O.ByteOut c.args.out.now c.write_filtered_end.new.out c.write_filtered_end.result t) text
    c.write_filtered_end.ensures
