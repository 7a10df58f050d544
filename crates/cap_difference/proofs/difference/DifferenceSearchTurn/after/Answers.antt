use Rattle.cap_spec.proofs.ProofNames.{inl, inr}
use Rattle.cap_difference.proofs.Copied.{differs_so, searched_here}
use Rattle.cap_difference.proofs.Found.{stops_at}
use Rattle.cap_difference.proofs.difference.DifferenceSearchTurn.after.Goals as goal

pub next_end-requires-clause-exists : goal.next_end-requires-clause-exists
next_end-requires-clause-exists g c = c.requires.known.2.exists

pub next_end-requires-clause-inside : goal.next_end-requires-clause-inside
next_end-requires-clause-inside g c = c.requires.known.2.inside

pub next_end-requires-clause-costs : goal.next_end-requires-clause-costs
next_end-requires-clause-costs g c = (c.args._cost, c.requires.known.2.costs)

pub returns-in-Ok-clause-ok : goal.returns-in-Ok-clause-ok
returns-in-Ok-clause-ok g c = λ seen a looked known.
    searched_here _ seen a _ _ _ _ _ looked known _ c.in-Ok.ensures.ends c.in-Ok.ensures.same c.in-Ok.ensures.copied

pub returns-in-Err-clause-err : goal.returns-in-Err-clause-err
returns-in-Err-clause-err g c =
    let k = c.requires.known in (
      inr (inl (stops_at _ k.0 k.1 _ _ _ _ _ k.2 k.3.same _ c.in-Err.ensures.differs)),
      differs_so _ k.0 k.1 _ _ _ _ _ k.2 k.3 c.in-Err.ensures.not_copied,
    )
