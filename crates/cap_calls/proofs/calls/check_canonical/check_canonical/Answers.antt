-- Nothing else is reported of the bytes.
use Rattle.cap_calls.proofs.Answers.{input_less, one_check_reported}
use Rattle.cap_calls.proofs.calls.check_canonical.check_canonical.Goals as goal

pub returns-clause-reports : goal.returns-clause-reports
returns-clause-reports c =
    let reported = c.over_input.ensures in
    (reported.0, input_less (λ _. tt) (λ m w d g p. p) reported.1, reported.2)

pub returns-clause-only : goal.returns-clause-only
returns-clause-only c = λ a r h. one_check_reported c.args.limits.now c.args.bytes.now _ a _ r (returns-clause-reports c) h
