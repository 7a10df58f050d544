-- Nothing else is reported of the bytes and the capacity.
use Rattle.std.proofs.Common.{Bool, arith, not, subst}
use Rattle.cap_calls.specs.CallFlags.{demands_of}
use Rattle.cap_calls.specs.CallInputs.{ReportsInput}
use Rattle.cap_calls.specs.ExplainCalls.{FindsLines, PutsText, frame_line, uncounted}
use Rattle.cap_calls.proofs.Answers.{by_flag}
use Rattle.cap_calls.proofs.Explained.{explained_input, explains_vets, few_lines, one_explanation_reported}
use Rattle.cap_calls.proofs.calls.explain.explain.Goals as goal

pub returns-clause-reports : goal.returns-clause-reports
returns-clause-reports c =
    let l = c.args.limits.now in
    let bs = c.args.bytes.now in
    let old = c.args.text.now in
    let reported = c.over_input-answer.ensures in
    let f = reported.0 in
    let input = explained_input _ _ l bs old _ _ (demands_of l) f _ _ _ reported.2.0 reported.3 c.put_frame_line.ensures.puts
    reported.1 in
    let tabled = subst (λ (no_table : Bool). ReportsInput (not c.allows_trailing-whole.result)
    (PutsText (frame_line c.over_input-answer.result.0) old c.put_frame_line.result c.put_frame_line.new.text)
    (FindsLines (not no_table) old c.put_frame_line.result c.put_frame_line.new.text (demands_of l)) l bs (uncounted f))
    c.has_no_table.ensures input in
    (uncounted f, by_flag l bs (uncounted f) _ c.allows_trailing-whole.ensures tabled, reported.2)

pub returns-clause-vets : goal.returns-clause-vets
returns-clause-vets c =
    explains_vets c.args.limits.now c.args.bytes.now c.args.text.now _ _ _ _ (returns-clause-reports c)

pub returns-clause-only : goal.returns-clause-only
returns-clause-only c = λ a n new r h.
    one_explanation_reported c.args.limits.now c.args.bytes.now c.args.text.now _ a _ n _ new _ r (returns-clause-reports c) h

pub returns-clause-few : goal.returns-clause-few
returns-clause-few c =
    let reported = c.over_input-answer.ensures in
    let l = c.args.limits.now in
    let few = few_lines _ _ l c.args.bytes.now c.args.text.now _ (demands_of l) reported.0 reported.1 in
    c.put_frame_line.ensures.few (omega (arith, reported.3, few))
