use Rattle.cap_spec.proofs.ProofNames.{List, Option, ap₂, subst, ℕ, ◌∙◌}
use Rattle.cap_spec.specs.declared.Step.{Step}
use Rattle.cap_text.specs.DifferenceLines.{canonical_members, canonical_start}
use Rattle.cap_text.specs.Writing.{Writes}
use Rattle.cap_run.proofs.Differing.{none_members, some_members}
use Rattle.cap_run.proofs.engines.canonical_object.write_start.Goals as goal

pub returns-in-Some : goal.returns-in-Some
returns-in-Some g c = λ words a h.
    let m = g.M.Segments.segments c.args.message.now in
    let r = c.args.report.now in
    let found = c.args.difference.now in
    let d = c.in-Some.found in
    let (k, members) = some_members m found h d c.in-Some.is in
    let said = ap₂ (λ (path : Option (List Step)) (sentence : List ℕ). canonical_members found path sentence)
    (c.steps.ensures ∙ c.find_difference.ensures words a k) c.difference_sentence-sentence.ensures.text ∙ members in
    subst (λ (t : List ℕ). Writes g.O.ByteOut c.args.out.now c.write_canonical_json.new.out c.write_canonical_json.result
    (canonical_start c.args.number r.charge r.depth r.pointers r.caps t)) said c.write_canonical_json.ensures

pub returns-in-None : goal.returns-in-None
returns-in-None g c = λ words a h.
    let m = g.M.Segments.segments c.args.message.now in
    let r = c.args.report.now in
    subst (λ (t : List ℕ). Writes g.O.ByteOut c.args.out.now c.write_canonical_json-in-None.new.out c.write_canonical_json-in-None.result
    (canonical_start c.args.number r.charge r.depth r.pointers r.caps t)) (none_members m c.args.difference.now h c.in-None.is)
    c.write_canonical_json-in-None.ensures
