use Rattle.std.proofs.Common.{ap, arith}
use Rattle.cap_calls.specs.EarlierCalls.{earlier, none}
use Rattle.cap_calls.specs.CallNames.{Good, CallReport}
use Rattle.cap_calls.proofs.calls.earlier_pointer.earlier_found.Goals as goal

pub returns-then-number-words : goal.returns-then-number-words
returns-then-number-words g c =
    none (λ path s w k a h. omega (arith, a.within, c.if-number-words.true, c.words.ensures.value)) c.path_answer.ensures

pub returns-in-Some : goal.returns-in-Some
returns-in-Some g c =
    let (path, a, h) = c.in-Some.ensures.reports in
    earlier path _ _ _ (record { traceable = a; within = omega (arith, c.if-number-words.false, c.words.ensures.value) }) h
    (ap (λ (r : CallReport). record { answer = Good; count = 0; report = r }) c.of_place.ensures)

pub returns-in-None : goal.returns-in-None
returns-in-None g c =
    none (λ path s w k a h. c.in-None.ensures.reports path a.traceable h.other h.first.holds) c.path_answer-in-None.ensures
