-- What a walk knows of lax pointers, and which messages are strict.
use Rattle.std.proofs.Common.{is_some}
use Rattle.cap_spec.proofs.Lemmas.{Before-irreflexive, first_by_tour}
use Rattle.cap_spec.proofs.ProofNames.{List, None, Option, [], arith, false, inl, inr, length, subst, ℕ, ◌∷◌, ◌≡◌, ◌≤◌}
use Rattle.cap_spec.proofs.ProofNames.{IsWithin, IsMessage, Before, IsFirstLax, IsLax, IsLaxAt, IsStrict, IsStrictFault, rules}
use Rattle.cap_spec.proofs.Strict.Faults.{strict_kept}
use Rattle.cap_vet.specs.VetNames.{Lax, Step, StrictRefusal, IsNotLax, IsFaultBy, IsAccepted, IsVetted, KnowsLax}
use Rattle.cap_vet.specs.VetNames.{Ahead, IsTrail, IsLookedAt, Demands, Report, LaxPointer}
use Rattle.cap_vet.specs.StrictNulls.{not_lax_path, still_knows}
use Rattle.cap_vet.proofs.Keeping.{vetted_kept}
use Rattle.cap_walk.proofs.Tours.{in_order, in_order-IsOneOf, length-in_order, tour_of}

-- The next pointer isn't lax,
pub knows_on : (m : List (List ℕ)) (seen : List (List Step)) (a : Ahead) (s w n cost : ℕ) (found : Option LaxPointer)
    → IsLookedAt m seen a s w n cost
    → IsNotLax m s w → KnowsLax m seen found → KnowsLax m (a.path ∷ seen) found
knows_on m seen a s w n cost found l none k =
    let r = rw (l.segment, l.word) at l.trail.ahead_reached.0 in
    still_knows m seen a.path found (not_lax_path m a.path a.level s w r none) k

-- or it is the first that is.
pub finds_first : (m : List (List ℕ)) (seen : List (List Step)) (a : Ahead) (s w n cost : ℕ) (what : Lax)
    → IsLookedAt m seen a s w n cost
    → IsLaxAt m s w what → KnowsLax m seen None → IsFirstLax m s w what n
finds_first m seen a s w n cost what l x k =
    let r = rw (l.segment, l.word) at l.trail.ahead_reached.0 in
    let many : length (in_order (a.path ∷ seen)) ≡ n = omega (arith, l.number, length-in_order (a.path ∷ seen)) in
    subst (IsFirstLax m s w what) many
    (first_by_tour m a.path a.level s w what (in_order (a.path ∷ seen)) r (tour_of m seen a l.later l.trail) x
    (λ q i b y. elim (in_order-IsOneOf q (a.path ∷ seen) i) [
      | inl e ↦ Before-irreflexive a.path (subst (λ (u : List Step). Before u a.path) e b)
      | inr j ↦ k q j y
    ]))

-- nothing is found yet
pub knows_none : (m : List (List ℕ)) (seen : List (List Step)) (found : Option LaxPointer) → is_some found ≡ false
    → KnowsLax m seen found → KnowsLax m seen None
knows_none m seen found e k = search rules

-- at the end of a walk that has found none there is none
pub none_at_end : (m : List (List ℕ)) (seen : List (List Step)) → IsTrail m seen [] → KnowsLax m seen None
    → (path : List Step) → ¬ IsLax m path
none_at_end m seen t k path x = elim (t.complete path x.0 x.1 x.2 x.4) [ inl one ↦ k path one x | inr none ↦ absurd none ]

-- what is accepted is within the limits
pub within_of : (m : List (List ℕ)) (words depth : ℕ) (report : Report) → IsAccepted m words depth report
    → IsWithin m words depth
within_of m words depth report (t, a) = (t, report.charge, report.depth, a.within)

-- what may be strict is strict, where it is accepted
pub strict_held : (m : List (List ℕ)) (report : Report) → ∥ IsVetted m report ∥₁ → ∥ IsStrict m 268435456 256 ∥₁
    → IsStrict m 268435456 256
strict_held m report vetted h =
    let k = strict_kept m 268435456 256 h in search (rules, within_of, vetted_kept)

-- A walk that has found none is through a strict message.
pub strict_at_end : {m : List (List ℕ)} {words depth : ℕ} {report : Report} (seen : List (List Step))
    → IsAccepted m words depth report → IsTrail m seen [] → KnowsLax m seen None → length m ≤ 511 → IsStrict m words depth
strict_at_end {m} {words} {depth} {report} seen a t k few = search (rules, within_of, none_at_end)

-- Why an accepted message isn't strict, by what a walk through it has found.
pub fault_at_end : (demands : Demands) (m : List (List ℕ)) (words depth : ℕ) (seen : List (List Step))
    (found : Option LaxPointer) (fault : StrictRefusal) → IsMessage m → IsWithin m words depth → KnowsLax m seen found
    → IsFaultBy demands (length m) found fault → IsStrictFault m words depth fault
fault_at_end demands m words depth seen found fault message within known f = search rules
