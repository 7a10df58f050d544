use Rattle.cap_spec.proofs.ProofNames.{Some, ap}
use Rattle.cap_walk.proofs.OneReport.{not_both_within}
use Rattle.cap_difference.proofs.Copied.{found_canonical}
use Rattle.cap_difference.proofs.Found.{found_names, none_left, some_found}
use Rattle.cap_difference.proofs.OneDifference.{one_difference}
use Rattle.cap_difference.proofs.difference.first_difference.Goals as goal

pub unreachable-requires : goal.unreachable-requires
unreachable-requires g c =
    let h = rw c.message-message.ensures.value at c.in-Err-Refused.ensures.err in
    not_both_within _ 268435456 256 c.greatest.ensures.words c.greatest.ensures.depth c.report-report.ensures.accepted (rw c.in-Err-Refused.field-0-is at h)

pub returns-in-Ok-clause-some : goal.returns-in-Ok-clause-some
returns-in-Ok-clause-some g c =
    let (seen, trail, known) = rw c.message-message.ensures.value at c.in-Ok.ensures.knows in
    some_found _ c.in-Ok.search.end c.report-report.result c.report-report.ensures.accepted seen trail known.same c.trailing.result
    (rw c.message-message.ensures.value at c.trailing.ensures.some)

pub returns-in-Ok-clause-none : goal.returns-in-Ok-clause-none
returns-in-Ok-clause-none g c =
    let (seen, trail, known) = rw c.message-message.ensures.value at c.in-Ok.ensures.knows in
    none_left _ c.in-Ok.search.end c.report-report.result c.report-report.ensures.accepted seen trail known.same c.trailing.result
    (rw c.message-message.ensures.value at c.trailing.ensures.none)

pub returns-in-Ok-clause-names : goal.returns-in-Ok-clause-names
returns-in-Ok-clause-names g c =
    let (seen, trail, known) = rw c.message-message.ensures.value at c.in-Ok.ensures.knows in
    found_names _ c.in-Ok.search.end c.report-report.result c.report-report.ensures.accepted seen trail known.same c.trailing.result
    (rw c.message-message.ensures.value at c.trailing.ensures.some) (rw c.message-message.ensures.value at c.trailing.ensures.none)

pub returns-in-Err-ByTurn-clause-names : goal.returns-in-Err-ByTurn-clause-names
returns-in-Err-ByTurn-clause-names g c = λ d f.
    let h = rw c.message-message.ensures.value at c.in-Err-ByTurn.ensures.err in
    rw c.in-Err-ByTurn.field-0-is (ap Some (one_difference _ c.in-Err-ByTurn.difference d (rw c.in-Err-ByTurn.field-0-is at h).0 f))

pub returns-in-Ok-clause-canonical : goal.returns-in-Ok-clause-canonical
returns-in-Ok-clause-canonical g c =
    let (seen, trail, known) = rw c.message-message.ensures.value at c.in-Ok.ensures.knows in
    found_canonical _ c.in-Ok.search.end c.report-report.result c.report-report.ensures.accepted seen trail known c.trailing.result
    (rw c.message-message.ensures.value at c.trailing.ensures.some) (rw c.message-message.ensures.value at c.trailing.ensures.none)

pub returns-in-Err-ByTurn-clause-canonical : goal.returns-in-Err-ByTurn-clause-canonical
returns-in-Err-ByTurn-clause-canonical g c =
    let h = rw c.message-message.ensures.value at c.in-Err-ByTurn.ensures.err in
    let vetted = c.report-report.ensures.accepted in
    (λ e. absurd (cc e), λ canon. absurd ((rw c.in-Err-ByTurn.field-0-is at h).1 vetted.0 _ _ vetted.1.within.denotes vetted.1.within.few_words canon))
