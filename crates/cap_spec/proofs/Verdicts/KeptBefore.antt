-- Where no path before one has a fault, these paths keep to the limits.
use Rattle.cap_spec.proofs.Paths.Preorder.{cut_tour, Before-trans, after_middle, middle_is_one}
use Rattle.cap_spec.proofs.ProofNames.{List, [], append-nil, append_assoc, arith, inl, inr, length, refl, subst, sym, ℕ}
use Rattle.cap_spec.proofs.ProofNames.{◌++◌, ◌+◌, ◌∷◌, ◌≡◌, ◌≤◌, ◌⊎◌, cases_lt, AreShallow, IsFaultAt, IsFirstFault}
use Rattle.cap_spec.proofs.ProofNames.{IsFirstReason, is_deep, is_past, Before, IsTour, Reaches, CostOf, IsDeepAt}
use Rattle.cap_spec.proofs.ProofNames.{Reason, DepthLimit, WordLimit, Refusal, Step}
use Rattle.cap_spec.proofs.Verdicts.OnPath.{cost_last, shallow_last}
use Rattle.cap_spec.proofs.Verdicts.OneFault.{fault_tour}

-- the tour up to a path that another tour comes by
part_tour : (m : List (List ℕ)) (path : List Step) (xs : List (List Step)) (p : List Step) (ys : List (List Step))
    → IsTour m path (xs ++ p ∷ ys) → (Before p path) ⊎ (p ≡ path) → IsTour m p (xs ++ p ∷ [])
part_tour m path xs p ys t upto =
    cut_tour m xs p ys t.rising t.reached (λ q level s w r b. t.all q level s w r (inr (before q b upto)))
  where
    before : (q : List Step) → Before q p → (Before p path) ⊎ (p ≡ path) → Before q path
    before q b (inl k) = Before-trans q p path b k
    before q b (inr e) = subst (λ (u : List Step). Before q u) e b

-- Before this path there is no fault.
module _ (m : List (List ℕ)) (words depth : ℕ) (path : List Step)
    (none : (other : List Step) → Before other path → (r : Refusal) → ¬ IsFaultAt m words depth other r) where
  -- so no reason applies at a path of the tour,
  no_reason : (xs : List (List Step)) (p : List Step) (ys : List (List Step)) (charge level s w : ℕ) (v : Reason)
      → IsTour m path (xs ++ p ∷ (ys ++ path ∷ [])) → CostOf m xs charge → Reaches m p level s w
      → ¬ IsFirstReason m words depth charge s w level v
  no_reason xs p ys charge level s w v t costs reached reason =
      let b : Before p path = after_middle xs p (ys ++ path ∷ []) path t.rising (middle_is_one path ys []) in
      let tour = part_tour m path xs p (ys ++ path ∷ []) t (inl b) in
      none p b record { segment = s; word = w; reason = v; pointers = length (xs ++ p ∷ []) } record {
        numbered = record { level = level; tour = xs ++ p ∷ []; reached = reached; is_tour = tour; count = refl };
        before = xs;
        charge = charge;
        whole = refl;
        costs = costs;
        reason = reason;
      }

  -- and they keep to the limits, one after the other.
  keep : (xs ys : List (List Step)) (charge rest : ℕ) → IsTour m path (xs ++ (ys ++ path ∷ [])) → CostOf m xs charge
      → charge ≤ words → AreShallow m depth xs → CostOf m ys rest
      → (charge + rest ≤ words) × AreShallow m depth (xs ++ ys)
  keep xs [] charge rest t costs within shallow h =
      (omega (arith, within, h), subst (AreShallow m depth) (sym (append-nil xs)) shallow)
  keep xs (p ∷ ys) charge rest t costs within shallow (level, s, w, one, more, reached, own, after, sum) =
      let not_deep : ¬ IsDeepAt m depth s w level =
      (λ deep. no_reason xs p ys charge level s w DepthLimit t costs reached (is_deep refl deep)) in
      let fits : charge + one ≤ words = elim (cases_lt words (charge + one)) [
        | inl past ↦
            absurd (no_reason xs p ys charge level s w WordLimit t costs reached (is_past one refl not_deep own past))
        | inr le ↦ le
      ] in
      let e : xs ++ p ∷ (ys ++ path ∷ []) ≡ (xs ++ p ∷ []) ++ (ys ++ path ∷ []) =
      sym (append_assoc xs (p ∷ []) (ys ++ path ∷ [])) in
      let g : (xs ++ p ∷ []) ++ ys ≡ xs ++ p ∷ ys = append_assoc xs (p ∷ []) ys in
      let r = keep (xs ++ p ∷ []) ys (charge + one) more (subst (IsTour m path) e t)
      (cost_last m xs p level s w one charge costs reached own) fits
      (shallow_last m depth xs p level s w shallow reached not_deep) after in
      (omega (arith, r.0, sum), subst (AreShallow m depth) g r.1)

-- The paths before the first fault keep to the limits.
pub kept_before : {m : List (List ℕ)} {words depth : ℕ} {r : Refusal} → (f : IsFirstFault m words depth r)
    → (f.fault.charge ≤ words) × AreShallow m depth f.fault.before
kept_before {m} {words} {depth} {r} f =
    let g = f.fault in
    let r = keep m words depth f.path (λ other b r k. f.first.first other b (r, k)) [] g.before 0 g.charge (fault_tour g)
    refl (omega arith) (λ p level s w i. absurd i) g.costs in
    (omega (arith, r.0), r.1)
