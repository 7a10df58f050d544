-- One refusal has one charge.
use Rattle.std.proofs.lemmas.List.{append_cancel_right}
use Rattle.cap_spec.specs.declared.Reason.TheVariants.{WordLimit}
use Rattle.cap_spec.specs.declared.Refusal.{Refusal}
use Rattle.cap_spec.specs.declared.Step.{Step}
use Rattle.cap_spec.specs.Faults.{is_wrong}
use Rattle.cap_spec.proofs.Lemmas.{one_refusal}
use Rattle.cap_spec.proofs.Paths.Preorder.{Rises-distinct, one_tour}
use Rattle.cap_spec.proofs.ProofNames.{List, None, Option, Some, [], ap, ap₂, arith, inl, inr, refl, subst, sym, ℕ, ◌++◌, ◌+◌}
use Rattle.cap_spec.proofs.ProofNames.{◌∙◌, ◌∷◌, ◌≡◌, ◌≢◌, IfSome, CostOf, Costs, IsFirstFault, IsFirstReason, IsRefused, IsTour}
use Rattle.cap_spec.proofs.ProofNames.{is_deep, is_past, rules}
use Rattle.cap_spec.proofs.Trees.Charges.{one_cost}
use Rattle.cap_spec.proofs.Verdicts.OneFault.{distinct_last, fault_tour}
use Rattle.cap_spec.proofs.Verdicts.OneVerdict.{distinct_cost}
use Rattle.std.specs.Prelude.{IfNone}
use Rattle.cap_spec.specs.declared.StrictRefusal.{StrictRefusal}
use Rattle.cap_spec.specs.declared.StrictRefusal.TheVariants.{Refused}
use Rattle.cap_walk.specs.ChargeUpTo.{IsChargeUpTo}
use Rattle.cap_walk.specs.Demands.{IsDemandFault, words_under}
use Rattle.cap_walk.specs.declared.demands.Demands.{Demands}
use Rattle.cap_explain.specs.Charges.{ChargeOf, fault_charge, reason_charge, refusal_charge}

module _ (m : List (List ℕ)) (words depth : ℕ) where
  -- first faults of one path have one charge before it
  one_before : (r : Refusal) (f k : IsFirstFault m words depth r) → k.path ≡ f.path → f.fault.charge ≡ k.fault.charge
  one_before r f k e =
      let tour : IsTour m f.path (k.fault.before ++ f.path ∷ []) = subst (λ u. IsTour m u (k.fault.before ++ u ∷ [])) e (fault_tour k.fault) in
      let lists = one_tour m f.path (f.fault.before ++ f.path ∷ []) (k.fault.before ++ f.path ∷ []) (fault_tour f.fault) tour in
      let same : f.fault.before ≡ k.fault.before = append_cancel_right f.fault.before k.fault.before (f.path ∷ []) lists in
      let distinct = (distinct_last f.fault.before f.path (Rises-distinct (f.fault.before ++ f.path ∷ []) (fault_tour f.fault).rising)).1 in
      let other : CostOf m f.fault.before k.fault.charge = subst (λ (ps : List (List Step)). CostOf m ps k.fault.charge) (sym same) k.fault.costs in
      let le = distinct_cost m f.fault.before f.fault.before f.fault.charge k.fault.charge distinct (λ q i. i) f.fault.costs other in
      let ge = distinct_cost m f.fault.before f.fault.before k.fault.charge f.fault.charge distinct (λ q i. i) other f.fault.costs in
      omega (arith, le, ge)

  -- one path is that of a first fault
  abbrev pub OnePath : Refusal → Type 0
  OnePath r = (k f : IsFirstFault m words depth r) → k.path ≡ f.path

  -- so the charge up to it is one
  one_up_to : (r u : Refusal) → r ≡ u → OnePath r → (f : IsFirstFault m words depth r) (cost : ℕ) → Costs m r.segment r.word cost
      → (k : IsFirstFault m words depth u) (one : ℕ) → Costs m u.segment u.word one → k.fault.charge + one ≡ f.fault.charge + cost
  one_up_to r u e paths f cost c =
      subst (λ (u : Refusal). (k : IsFirstFault m words depth u) (one : ℕ) → Costs m u.segment u.word one → k.fault.charge + one ≡ f.fault.charge + cost) e
      (λ k one d. ap₂ (λ x y. x + y) (sym (one_before r f k (paths k f))) (one_cost m r.segment r.word one cost d c))

  -- a refusal for another reason has none
  pub no_charge : (r : Refusal) → IsRefused m words depth r → r.reason ≢ WordLimit → (charge : ℕ) → ¬ IsChargeUpTo m words depth charge
  no_charge r h n charge (u, f, e, cost, c, x) = n (ap (λ (r : Refusal). r.reason) (one_refusal m words depth r u h (inr f)) ∙ e)

  -- the charge up to the pointer is that of the first fault
  by_reason : (r : Refusal) (f : IsFirstFault m words depth r) (reason : IsFirstReason m words depth f.fault.charge r.segment r.word f.fault.numbered.level r.reason)
      (o : Option ℕ) → OnePath r → IfSome o (IsChargeUpTo m words depth) → IfNone o ((charge : ℕ) → ¬ IsChargeUpTo m words depth charge)
      → o ≡ reason_charge m words depth f.fault.charge r.segment r.word f.fault.numbered.level r.reason reason
  by_reason r f (is_wrong x) None paths some none = refl
  by_reason r f (is_wrong x) (Some n) paths some none = absurd (no_charge r (inr f) (λ e. (rw e at x).holds) n some)
  by_reason r f (is_deep named deep) None paths some none = refl
  by_reason r f (is_deep named deep) (Some n) paths some none = absurd (no_charge r (inr f) (λ e. let z = sym named ∙ e in cc) n some)
  by_reason r f (is_past cost named shallow costs past) None paths some none =
      absurd (none (f.fault.charge + cost) (r, f, named, cost, costs, refl))
  by_reason r f (is_past cost named shallow costs past) (Some n) paths (u, k, e, one, c, x) none =
      search (rules, one_refusal m words depth r u (inr f) (inr k), one_up_to r u (one_refusal m words depth r u (inr f) (inr k)) paths f cost costs k one c)

  pub charge_up_to_is : (r : Refusal) (h : IsRefused m words depth r) (o : Option ℕ) → OnePath r → IfSome o (IsChargeUpTo m words depth)
      → IfNone o ((charge : ℕ) → ¬ IsChargeUpTo m words depth charge) → o ≡ refusal_charge m words depth r h
  charge_up_to_is r (inl h) None paths some none = refl
  charge_up_to_is r (inl h) (Some n) paths some none = absurd (no_charge r (inl h) (λ e. let z = sym h.lacks.reason ∙ e in cc) n some)
  charge_up_to_is r (inr f) o paths some none = by_reason r f f.fault.reason o paths some none

  -- the charge of a first fault is the charge up to its pointer
  charge_some : (r : Refusal) (f : IsFirstFault m words depth r) (reason : IsFirstReason m words depth f.fault.charge r.segment r.word f.fault.numbered.level r.reason)
      → IfSome (reason_charge m words depth f.fault.charge r.segment r.word f.fault.numbered.level r.reason reason) (IsChargeUpTo m words depth)
  charge_some r f (is_past cost named shallow costs past) = (r, f, named, cost, costs, refl)
  charge_some r f reason = tt

  charge_none : (r : Refusal) (f : IsFirstFault m words depth r) (reason : IsFirstReason m words depth f.fault.charge r.segment r.word f.fault.numbered.level r.reason)
      → IfNone (reason_charge m words depth f.fault.charge r.segment r.word f.fault.numbered.level r.reason reason) ((charge : ℕ) → ¬ IsChargeUpTo m words depth charge)
  charge_none r f (is_wrong x) = no_charge r (inr f) (λ e. (rw e at x).holds)
  charge_none r f (is_deep named deep) = no_charge r (inr f) (λ e. let z = sym named ∙ e in cc)
  charge_none r f (is_past cost named shallow costs past) = tt

  -- one refusal has one charge
  pub one_charge : (r : Refusal) (h k : IsRefused m words depth r) → OnePath r → refusal_charge m words depth r h ≡ refusal_charge m words depth r k
  one_charge r (inl h) k paths = charge_up_to_is r k None paths tt (no_charge r (inl h) (λ e. let z = sym h.lacks.reason ∙ e in cc))
  one_charge r (inr f) k paths = charge_up_to_is r k _ paths (charge_some r f f.fault.reason) (charge_none r f f.fault.reason)

-- what is said of a fault is its charge
pub charge_is : (demands : Demands) (m : List (List ℕ)) (words depth : ℕ) (fault : StrictRefusal)
    → ((r : Refusal) → OnePath m (words_under demands m words) depth r)
    → (h : IsDemandFault demands m words depth fault) (charge : Option ℕ) → ChargeOf m (words_under demands m words) depth fault charge
    → charge ≡ fault_charge demands m words depth fault h
charge_is demands m words depth (Refused r) paths h charge c =
    let charged = c h in
    charge_up_to_is m (words_under demands m words) depth r h charge (paths r) charged.0 charged.1
charge_is demands m words depth fault paths h charge c = c

-- a fault has one charge
pub one_fault_charge : (demands : Demands) (m : List (List ℕ)) (words depth : ℕ) (fault : StrictRefusal)
    → ((r : Refusal) → OnePath m (words_under demands m words) depth r)
    → (h k : IsDemandFault demands m words depth fault)
    → fault_charge demands m words depth fault h ≡ fault_charge demands m words depth fault k
one_fault_charge demands m words depth (Refused r) paths h k = one_charge m (words_under demands m words) depth r h k (paths r)
one_fault_charge demands m words depth fault paths h k = refl
