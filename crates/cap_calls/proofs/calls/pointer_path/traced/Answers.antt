use Rattle.std.proofs.Common.{ap, arith, length, ◌<◌, ◌∙◌, ◌≤◌}
use Rattle.cap_calls.specs.PointerCalls.{none, too_small, written}
use Rattle.cap_calls.specs.CallNames.{steps_found, BufferTooSmall, Good, Found}
use Rattle.cap_calls.proofs.calls.pointer_path.traced.Goals as goal

pub returns-then-count-out : goal.returns-then-count-out
returns-then-count-out g c =
    let t = c.in-Some.ensures.reports in
    let found = c.found_of_steps.ensures ∙ ap (steps_found BufferTooSmall) t.2 in
    let count = ap (λ (f : Found). f.count) c.found_of_steps.ensures in
    let less : length c.args.out.now < length t.0 = omega (arith, c.if-count-out.true, t.2) in
    (too_small t.0 (record { traceable = t.1; within = omega (arith, c.if-number-words.false) }) less found (t.3.1 less), omega (arith, count, c.in-Some.ensures.few))

pub returns-in_default : goal.returns-in_default
returns-in_default g c =
    let missing = c.in_default.ensures.reports.0 in
    let count = ap (λ (f : Found). f.count) c.path_answer-in_default.ensures in
    (none (λ path counted. missing path counted.traceable) c.path_answer-in_default.ensures c.in_default.ensures.reports.1, omega (arith, count))

pub returns : goal.returns
returns g c =
    let t = c.in-Some.ensures.reports in
    let found = c.found_of_steps-2.ensures ∙ ap (steps_found Good) t.2 in
    let count = ap (λ (f : Found). f.count) c.found_of_steps-2.ensures in
    let fits : length t.0 ≤ length c.args.out.now = omega (arith, c.if-count-out.false, t.2) in
    (written t.0 (record { traceable = t.1; within = omega (arith, c.if-number-words.false) }) fits found (t.3.0 fits), omega (arith, count, c.in-Some.ensures.few))
