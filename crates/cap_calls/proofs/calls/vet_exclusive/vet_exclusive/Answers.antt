-- Nothing else is reported of the bytes and the capacity.
use Rattle.std.proofs.Common.{ap, arith, inl, inr, ◌∙◌}
use Rattle.cap_calls.specs.declared.report.CallReport.{CallReport}
use Rattle.cap_calls.proofs.Answers.{by_flag, input_less}
use Rattle.cap_calls.proofs.Bounds.{input_inside}
use Rattle.cap_calls.proofs.Marked.{few_input, input_kept, one_exclusive_reported}
use Rattle.cap_calls.proofs.calls.vet_exclusive.vet_exclusive.Goals as goal

pub returns-clause-reports : goal.returns-clause-reports
returns-clause-reports c =
    let l = c.args.limits.now in
    let bs = c.args.bytes.now in
    let reported = c.over_input-answer.ensures in
    let less = input_less (λ _. tt) (λ m w d g p. p.0) reported.1 in
    (reported.0, by_flag l bs reported.0 _ c.allows_trailing-whole.ensures less, reported.2, reported.3)

pub returns-clause-only : goal.returns-clause-only
returns-clause-only c = λ a n r h. one_exclusive_reported c.args.limits.now c.args.bytes.now _ _ a _ n _ r (returns-clause-reports c) h

pub returns-clause-few : goal.returns-clause-few
returns-clause-few c =
    let l = c.args.limits.now in
    let bs = c.args.bytes.now in
    let reported = c.over_input-answer.ensures in
    let few = few_input _ l bs _ _ reported.0 (input_less (λ _. tt) (λ m w d g p. p.0) reported.1) in
    let long = ap (λ (r : CallReport). r.length) reported.2.1 in
    omega (arith, few, long, reported.3)

pub returns-clause-bound : goal.returns-clause-bound
returns-clause-bound c =
    let l = c.args.limits.now in
    let bs = c.args.bytes.now in
    let reported = c.over_input-answer.ensures in
    let few = few_input _ l bs _ _ reported.0 (input_less (λ _. tt) (λ m w d g p. p.0) reported.1) in
    let inside = input_inside _ l bs reported.0 reported.1 in
    omega (arith, few, inside, reported.3)

pub returns-clause-rest : goal.returns-clause-rest
returns-clause-rest c =
    let reported = c.over_input-answer.ensures in
    rw reported.3 (input_kept _ _ c.args.limits.now c.args.bytes.now _ _ reported.0 reported.1).rest

pub returns-clause-kept : goal.returns-clause-kept
returns-clause-kept c =
    let reported = c.over_input-answer.ensures in
    elim (input_kept _ _ c.args.limits.now c.args.bytes.now _ _ reported.0 reported.1).kept [
      | inl good ↦ inl (reported.2.0 ∙ good)
      | inr other ↦ inr (elim other [ inl overlap ↦ inl (reported.2.0 ∙ overlap) | inr kept ↦ inr kept ])
    ]
