-- Which faults a message has under demands.
use Rattle.cap_spec.proofs.Lemmas.{within_not_refused}
use Rattle.cap_spec.proofs.ProofNames.{IsTrue, List, Option, [], subst, ℕ, ◌≡◌, IsMessage, IsStrict, IsStrictFault}
use Rattle.cap_spec.proofs.ProofNames.{length, rules}
use Rattle.cap_spec.proofs.Strict.Faults.{one_strict_fault, strict_not_fault}
use Rattle.cap_walk.specs.Demands.{IsMet}
use Rattle.cap_vet.specs.VetNames.{StrictRefusal, Pointer, IsDemandFault, Meets, words_under, Demands, HasNoFaultBy}
use Rattle.cap_vet.specs.VetNames.{IsAccepted, IsFaultBy, IsTrail, KnowsLax, LaxPointer, Report, Step}
use Rattle.cap_vet.proofs.Laxness.{fault_at_end, strict_at_end, within_of}

-- each is a reason not to be strict
fault_of : (demands : Demands) (m : List (List ℕ)) (words depth : ℕ) (fault : StrictRefusal)
    → IsDemandFault demands m words depth fault
    → IsStrictFault m (words_under demands m words) depth fault
fault_of demands m words depth fault h = search rules

-- there is one fault,
pub one_fault_under : (demands : Demands) (m : List (List ℕ)) (words depth : ℕ) (a b : StrictRefusal)
    → IsDemandFault demands m words depth a → IsDemandFault demands m words depth b → a ≡ b
one_fault_under demands m words depth a b h k =
    one_strict_fault m _ depth a b (fault_of demands m words depth a h) (fault_of demands m words depth b k)

-- and none of a message that meets the demands
pub no_fault_under : (demands : Demands) (m : List (List ℕ)) (words depth : ℕ) (fault : StrictRefusal)
    → Meets demands m words depth → IsDemandFault demands m words depth fault → ⊥
no_fault_under demands m words depth (Pointer what s w n) met h =
    strict_not_fault m (words_under demands m words) depth (Pointer what s w n) (met.strict h.0) h.1
no_fault_under demands m words depth fault met h = search (rules, within_not_refused, strict_not_fault)

-- a fault of strictness is one only where a strict message is demanded
strict_demanded : (demands : Demands) (count : ℕ) (first : Option LaxPointer) (fault : StrictRefusal)
    → IsFaultBy demands count first fault → IsTrue demands.strict
strict_demanded demands count first fault f = search rules

-- The limits are those under the demands.
module _ (demands : Demands) (m : List (List ℕ)) (words depth limit levels : ℕ)
    (same : limit ≡ words_under demands m words) (deep : levels ≡ depth) where
  -- So there is one fault,
  pub one_demand_fault : (a b : StrictRefusal) → IsStrictFault m limit levels a
      → IsDemandFault demands m words depth b → a ≡ b
  one_demand_fault a b h k = search (rules, one_strict_fault, fault_of)

  -- each reason not to be strict is a fault, where a strict message is demanded,
  pub fault_demanded : (fault : StrictRefusal) → IsTrue demands.strict → IsStrictFault m limit levels fault
      → IsDemandFault demands m words depth fault
  fault_demanded fault k h = search rules

  -- and none of a strict message.
  pub strict_meets : (fault : StrictRefusal) → IsStrict m limit levels → IsDemandFault demands m words depth fault → ⊥
  strict_meets fault h k = search (rules, strict_not_fault, fault_of)

  -- At its end a walk has met them,
  pub met_at_end : {report : Report} (seen : List (List Step)) (first : Option LaxPointer)
      → IsAccepted m limit levels report → IsTrail m seen [] → KnowsLax m seen first → HasNoFaultBy demands (length m) first
      → IsMet demands m words depth report
  met_at_end {report} seen first a t k none =
      let accepted = subst (λ u. IsAccepted m u depth report) same (subst (λ u. IsAccepted m limit u report) deep a) in (
        accepted,
        record {
          within = within_of m (words_under demands m words) depth report accepted;
          strict = λ demanded.
              let h = none demanded in
              subst (λ u. IsStrict m u depth) same (subst (λ u. IsStrict m limit u) deep
              (strict_at_end seen a t (subst (λ (u : Option LaxPointer). KnowsLax m seen u) h.1 k) h.0));
        },
      )

  -- or has a fault.
  pub demand_fault_at_end : {report : Report} (seen : List (List Step)) (first : Option LaxPointer) (fault : StrictRefusal)
      → IsMessage m → IsAccepted m limit levels report → KnowsLax m seen first → IsFaultBy demands (length m) first fault
      → IsDemandFault demands m words depth fault
  demand_fault_at_end {report} seen first fault message a k f = search (rules, fault_demanded, strict_demanded, fault_at_end, within_of)
