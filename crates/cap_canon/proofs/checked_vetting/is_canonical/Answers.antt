-- A walk within the greatest limits stops only at a message that isn't canonical: it was accepted before.
use Rattle.cap_spec.proofs.ProofNames.{List, ℕ, ◌≡◌, false≢true, IsCanonical, most_depth, most_words, Tree, rules}
use Rattle.cap_spec.proofs.Strict.Faults.{within_wider}
use Rattle.cap_spec.proofs.Verdicts.Refusals.{within_not_refused}
use Rattle.cap_vet.specs.VetNames.{depth_of, words_of, IsReport}
use Rattle.cap_walk.specs.Turns.{IsStopped}
use Rattle.cap_walk.specs.declared.limits.Limits.{Limits}
use Rattle.cap_walk.specs.declared.turn.Stopped.{Stopped}
use Rattle.cap_canon.specs.CanonNames.{Report, IsNotCanonical}
use Rattle.cap_canon.proofs.checked_vetting.is_canonical.Goals as goal

not_stopped : {S : Type 0} (m : List (List ℕ)) (limits : Limits) (stopped : Stopped S) (r : Report) (t : Tree) → words_of limits ≡ most_words
    → depth_of limits ≡ most_depth → IsReport m most_words most_depth r t → IsStopped m limits (λ _. IsNotCanonical m) stopped → IsCanonical m → ⊥
not_stopped m limits e r t w d k h canon = search (rules, within_not_refused, within_wider)

pub returns-in-Err-Refused : goal.returns-in-Err-Refused
returns-in-Err-Refused g c =
    let k = c.report-report.ensures.accepted in
    let h = rw c.message.ensures.value at c.in-Err-Refused.ensures.err in (
      λ yes. absurd (false≢true yes),
      λ canon. absurd (not_stopped _ c.greatest.result _ c.report-report.result k.0 c.greatest.ensures.words c.greatest.ensures.depth k.1 h canon),
    )
