use Rattle.cap_spec.proofs.ProofNames.{List, None, Some, ap, codes, length, subst, sym, ℕ, ◌∙◌, ◌≤◌, refused}
use Rattle.cap_vet.specs.VetNames.{depth_of}
use Rattle.cap_explain.specs.Explaining.{overlap_explanation}
use Rattle.cap_explain.specs.Meanings.{HasTrueReason}
use Rattle.cap_text.specs.JsonLines.{explained_json}
use Rattle.cap_text.specs.Writing.{Writes}
use Rattle.cap_run.specs.LastLines.{GivesReason}
use Rattle.cap_run.proofs.Reasons.{overlap_reason, true_gives, true_short}
use Rattle.cap_run.proofs.engines.explained.write_overlap_object.Goals as goal

pub write_explained_overlap_json-requires : goal.write_explained_overlap_json-requires
write_explained_overlap_json-requires g c =
    let m = g.M.Segments.segments c.args.message.now in
    let s = c.args.segment in
    let w = c.args.word in
    let lines = overlap_explanation None m None s w in
    let reason : HasTrueReason m 0 0 s w lines = overlap_reason m 0 0 s w c.args.pointers c.requires in
    let said = c.last_reason-sentence.ensures reason.sentence (subst (λ (lines : List ℕ). GivesReason lines reason.sentence)
    (sym (c.text.ensures.lines ∙ c.overlap_lines-lines.ensures)) (true_gives m 0 0 s w lines reason)) in
    subst (λ (s : List ℕ). length s ≤ 120) (sym said) (true_short m 0 0 s w lines reason)

pub returns : goal.returns
returns g c = λ words a f reason.
    let m = g.M.Segments.segments c.args.message.now in
    let n = c.args.number in
    let s = c.args.segment in
    let w = c.args.word in
    let verdict = refused (codes "Overlap") s w c.args.pointers in
    let said = c.last_reason-sentence.ensures reason.sentence (subst (λ (lines : List ℕ). GivesReason lines reason.sentence)
    (sym (c.text.ensures.lines ∙ c.overlap_lines-lines.ensures))
    (true_gives m words (depth_of c.args.limits) s w (overlap_explanation None m None s w) reason)) in
    let named = c.find.ensures.overlap words s w a f in
    let text = ap (λ path. explained_json n verdict path c.last_reason-sentence.result.now None) (c.steps.ensures ∙ named)
    ∙ ap (λ (s : List ℕ). explained_json n verdict (Some f.path) s None) said in
    subst (λ (t : List ℕ). Writes g.O.ByteOut c.args.out.now c.write_explained_overlap_json.new.out c.write_explained_overlap_json.result t)
    text c.write_explained_overlap_json.ensures
