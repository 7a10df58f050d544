use Rattle.cap_spec.proofs.ProofNames.{List, [], ap, length, subst, sym, ℕ, ◌∙◌, ◌≤◌, strict_verdict}
use Rattle.cap_vet.specs.VetNames.{depth_of}
use Rattle.cap_explain.proofs.Reasons.{true_reason}
use Rattle.cap_text.specs.JsonLines.{explained_json}
use Rattle.cap_text.specs.Writing.{Writes}
use Rattle.cap_trace.specs.NamedPaths.{fault_path}
use Rattle.cap_run.specs.ExplainedJson.{FaultReason, plain_lines}
use Rattle.cap_run.specs.LastLines.{GivesReason}
use Rattle.cap_run.proofs.Reasons.{true_gives, true_short}
use Rattle.cap_run.proofs.engines.explained.write_fault_object.Goals as goal

pub write_explained_json-requires : goal.write_explained_json-requires
write_explained_json-requires g c =
    let m = g.M.Segments.segments c.args.message.now in
    let refusal = c.args.refusal.now in
    let (demands, words, h) = c.requires in
    let reason : FaultReason demands m words (depth_of c.args.limits) refusal =
    true_reason demands m words (depth_of c.args.limits) refusal [] _ h in
    let said = c.last_reason-sentence.ensures reason.sentence (subst (λ (lines : List ℕ). GivesReason lines reason.sentence)
    (sym (c.text.ensures.lines ∙ c.reason_lines-lines.ensures)) (true_gives m _ _ _ _ (plain_lines m refusal) reason)) in
    subst (λ (s : List ℕ). length s ≤ 120) (sym said) (true_short m _ _ _ _ (plain_lines m refusal) reason)

pub returns : goal.returns
returns g c = λ demands words h reason.
    let m = g.M.Segments.segments c.args.message.now in
    let refusal = c.args.refusal.now in
    let depth = depth_of c.args.limits in
    let n = c.args.number in
    let said = c.last_reason-sentence.ensures reason.sentence (subst (λ (lines : List ℕ). GivesReason lines reason.sentence)
    (sym (c.text.ensures.lines ∙ c.reason_lines-lines.ensures)) (true_gives m _ _ _ _ (plain_lines m refusal) reason)) in
    let cycle = c.fault_cycle-cycle.result in
    let text = ap (λ path. explained_json n (strict_verdict refusal) path c.last_reason-sentence.result.now cycle)
    (c.steps.ensures ∙ c.find_refused.ensures demands words h)
    ∙ ap (λ (s : List ℕ). explained_json n (strict_verdict refusal) (fault_path demands m words depth refusal h) s cycle) said in (
      cycle,
      c.fault_cycle-cycle.ensures demands words h,
      subst (λ (t : List ℕ). Writes g.O.ByteOut c.args.out.now c.write_explained_json.new.out c.write_explained_json.result t) text
          c.write_explained_json.ensures,
    )
