-- Nothing else is reported of the bytes.
use Rattle.cap_calls.proofs.Answers.{by_flag, input_less, one_vet_reported}
use Rattle.cap_calls.proofs.calls.vet.vet.Goals as goal

pub returns-clause-reports : goal.returns-clause-reports
returns-clause-reports c =
    let l = c.args.limits.now in
    let bs = c.args.bytes.now in
    let reported = c.over_input.ensures in
    let less = input_less (λ _. tt) (λ m w d g p. p) reported.1 in
    (reported.0, by_flag l bs reported.0 _ c.allows_trailing-whole.ensures less, reported.2)

pub returns-clause-only : goal.returns-clause-only
returns-clause-only c = λ a r h. one_vet_reported c.args.limits.now c.args.bytes.now _ a _ r (returns-clause-reports c) h
