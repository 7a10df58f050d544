-- The charge up to the pointer at which the word limit is passed.
use Rattle.cap_spec.specs.declared.Reason.TheVariants.{WordLimit}
use Rattle.cap_spec.proofs.Frames.Messages.{HasWord-inside, HasWord-segment}
use Rattle.cap_spec.proofs.Lemmas.{one_refusal, within_not_refused}
use Rattle.cap_spec.proofs.Paths.Preorder.{Rises-distinct}
use Rattle.cap_spec.proofs.ProofNames.{List, [], ap, arith, inl, inr, length, reverse, sym, ℕ, ◌++◌, ◌<◌, ◌^◌, ◌∙◌}
use Rattle.cap_spec.proofs.ProofNames.{◌∷◌, ◌+◌, ◌≡◌, ◌≢◌, ◌≤◌, AreDistinct, CostOf, Costs, HasWord, IsFirstFault}
use Rattle.cap_spec.proofs.ProofNames.{IsRefused, IsWithin, Leads, segment_of, Lead, rules}
use Rattle.cap_spec.proofs.Verdicts.KeptBefore.{kept_before}
use Rattle.cap_spec.proofs.Verdicts.OneFault.{distinct_last, fault_tour}
use Rattle.cap_spec.proofs.Verdicts.OneVerdict.{distinct_cost}
use Rattle.cap_spec.specs.declared.Refusal.{Refusal}
use Rattle.cap_ptr.specs.Shapes.{IsFollowed, charge_of}
use Rattle.cap_ptr.specs.declared.shapes.Followed.{Followed}
use Rattle.cap_walk.specs.ChargeSteps.{SumsBefore}
use Rattle.cap_walk.specs.ChargeUpTo.{IsChargeUpTo}
use Rattle.cap_walk.specs.WalkNames.{Step}
use Rattle.cap_walk.proofs.Tours.{in_order-reverse}
use Rattle.cap_walk.proofs.Verdicts.{CostOf-in_order}

-- the word that leads to some place
leads_word : (m : List (List ℕ)) (s w k : ℕ) (r : Lead) → Leads m s w k r → (p : ℕ) × HasWord m s w p
leads_word m s w k r h = search rules

costs_word : (m : List (List ℕ)) (s w cost : ℕ) → Costs m s w cost → (p : ℕ) × HasWord m s w p
costs_word m s w cost h = search (rules, leads_word)

-- so the word is there
pub past_exists : (m : List (List ℕ)) (s w cost : ℕ) → Costs m s w cost → (s < length m) × (w < length (segment_of m s))
past_exists m s w cost c =
    let h = costs_word m s w cost c in
    (HasWord-segment m s w h.0 h.1, HasWord-inside m s w h.0 h.1)

-- the paths before the first fault are distinct
pub distinct_before : (before : List (List Step)) (path : List Step) → AreDistinct (before ++ path ∷ []) → AreDistinct before
distinct_before before path d = (distinct_last before path d).1

-- the charge of the first fault is that of the paths that a walk has seen before it
charge_before : (m : List (List ℕ)) (words depth : ℕ) (r : Refusal) (f : IsFirstFault m words depth r) (seen : List (List Step)) (charge : ℕ)
    → f.fault.before ≡ reverse seen → CostOf m seen charge → f.fault.charge ≡ charge
charge_before m words depth r f seen charge e c =
    search (rules, in_order-reverse, CostOf-in_order, distinct_cost, distinct_before, Rises-distinct, fault_tour)

-- what a walk says that stopped at a refusal
module _ (m : List (List ℕ)) (words depth charge : ℕ) (r : Refusal) where
  pub refused_of : SumsBefore m words depth r charge → IsRefused m words depth r
  refused_of h = search rules

  -- where the word limit is passed, the pointer can be followed
  pub cost_there : SumsBefore m words depth r charge → r.reason ≡ WordLimit → (cost : ℕ) × Costs m r.segment r.word cost
  cost_there (inl h) e = absurd (let no = h.0.lacks.reason in cc)
  cost_there (inr h) e = let at = h.0.fault in
      search rules

  -- the charge before it is within the limit
  pub charge_within : SumsBefore m words depth r charge → r.reason ≡ WordLimit → charge ≤ words
  charge_within (inl h) e = absurd (let no = h.0.lacks.reason in cc)
  charge_within (inr h) e = omega (arith, (kept_before h.0).0, charge_before m words depth r h.0 h.1 charge h.2 h.3.0)

  -- with what the pointer costs it is the charge up to that
  pub charge_with : SumsBefore m words depth r charge → r.reason ≡ WordLimit → (cost : ℕ) → Costs m r.segment r.word cost
      → IsChargeUpTo m words depth (charge + cost)
  charge_with (inl h) e cost c = absurd (let no = h.0.lacks.reason in cc)
  charge_with (inr h) e cost c = (
    r,
    h.0,
    e,
    cost,
    c,
    ap (λ x. x + cost) (sym (charge_before m words depth r h.0 h.1 charge h.2 h.3.0)),
  )

-- a message that is refused for another reason has none
pub other_reason : (m : List (List ℕ)) (words depth : ℕ) (r : Refusal) → IsRefused m words depth r → r.reason ≢ WordLimit
    → (charge : ℕ) → ¬ IsChargeUpTo m words depth charge
other_reason m words depth r h n charge (r', f, e, cost, c, x) =
    n (ap (λ (r : Refusal). r.reason) (one_refusal m words depth r r' h (inr f)) ∙ e)

-- nor does one that is accepted
pub accepted_none : (m : List (List ℕ)) (words depth : ℕ) → IsWithin m words depth → (charge : ℕ) → ¬ IsChargeUpTo m words depth charge
accepted_none m words depth w charge (r, f, e, cost, c, x) = within_not_refused m words depth r w (inr f)

-- following a pointer costs few words
pub charge_small : (m : List (List ℕ)) (s w : ℕ) (f : Followed) → IsFollowed m s w f → charge_of f < 2 ^ 31
charge_small m s w f h = search rules
