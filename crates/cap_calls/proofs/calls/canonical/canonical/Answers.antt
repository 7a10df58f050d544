-- Nothing else is reported of the bytes and the buffer.
use Rattle.std.proofs.Common.{ap, arith}
use Rattle.cap_calls.specs.declared.report.CallReport.{CallReport}
use Rattle.cap_calls.proofs.Answers.{by_flag}
use Rattle.cap_calls.proofs.Bounds.{input_inside}
use Rattle.cap_calls.proofs.Copied.{few_input, one_copy_reported, short_input}
use Rattle.cap_calls.proofs.calls.canonical.canonical.Goals as goal

pub returns-clause-reports : goal.returns-clause-reports
returns-clause-reports c =
    let reported = c.over_input-answer.ensures in
    (reported.0, by_flag c.args.limits.now c.args.bytes.now reported.0 _ c.allows_trailing-whole.ensures reported.1, reported.2, reported.3)

pub returns-clause-only : goal.returns-clause-only
returns-clause-only c = λ a n new r h.
    one_copy_reported c.args.limits.now c.args.bytes.now c.args.out.now _ a _ n _ new _ r (returns-clause-reports c) h

pub returns-clause-few : goal.returns-clause-few
returns-clause-few c =
    let reported = c.over_input-answer.ensures in
    let few = few_input _ _ c.args.limits.now c.args.bytes.now c.args.out.now _ reported.0 reported.1 in
    let charge = ap (λ (r : CallReport). r.charge) reported.2.1 in
    omega (arith, few, charge, reported.3)

pub returns-clause-short : goal.returns-clause-short
returns-clause-short c = λ un.
    let reported = c.over_input-answer.ensures in
    let short = short_input _ c.args.limits.now c.args.bytes.now c.args.out.now _ reported.0 un reported.1 in
    let long = ap (λ (r : CallReport). r.length) reported.2.1 in
    omega (arith, short, long, reported.3)

pub returns-clause-bound : goal.returns-clause-bound
returns-clause-bound c = λ un.
    let reported = c.over_input-answer.ensures in
    let short = short_input _ c.args.limits.now c.args.bytes.now c.args.out.now _ reported.0 un reported.1 in
    let inside = input_inside _ c.args.limits.now c.args.bytes.now reported.0 reported.1 in
    omega (arith, short, inside, reported.3)
