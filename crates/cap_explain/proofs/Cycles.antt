-- One refusal has one cycle.
use Rattle.std.proofs.Common.{Bool, List, None, Option, ap, false, inl, inr, refl, subst, sym, true, ℕ, ◌∙◌, ◌≡◌}
use Rattle.cap_spec.specs.Faults.{IsFirstFault, IsRefused}
use Rattle.cap_spec.specs.declared.Reason.{Reason}
use Rattle.cap_spec.specs.declared.Reason.TheVariants.{NoRoot}
use Rattle.cap_spec.specs.declared.Refusal.{Refusal}
use Rattle.cap_spec.specs.declared.Step.{Step}
use Rattle.cap_spec.specs.declared.StrictRefusal.{StrictRefusal}
use Rattle.cap_spec.specs.declared.StrictRefusal.TheVariants.{ManySegments, Pointer, Refused}
use Rattle.cap_trace.specs.Returns.{IsLastCycle}
use Rattle.cap_trace.specs.declared.returning.Cycle.{Cycle}
use Rattle.cap_trace.proofs.Returns.{one_last_cycle}
use Rattle.cap_walk.specs.Demands.{IsDemandFault, words_under}
use Rattle.cap_walk.specs.declared.demands.Demands.{Demands}
use Rattle.cap_explain.specs.Cycles.{IsFaultCycle, IsLimitCycle, IsRefusedCycle, is_limit}
use Rattle.cap_explain.proofs.Charges.{OnePath}

module _ (m : List (List ℕ)) where
  -- another reason has none
  pub no_refused_cycle : (words depth : ℕ) (r : Refusal) → is_limit r.reason ≡ false → (h : IsRefused m words depth r)
      → IsRefusedCycle m words depth r h None
  no_refused_cycle words depth r other (inl none) = refl
  no_refused_cycle words depth r other (inr f) = subst (λ (b : Bool). IsLimitCycle b m f.path None) (sym other) refl

  -- that of a limit is the last of the path
  pub limit_cycle : (words depth : ℕ) (r : Refusal) (cycle : Option Cycle) → is_limit r.reason ≡ true
      → ((f : IsFirstFault m words depth r) → IsLastCycle m f.path cycle) → (h : IsRefused m words depth r)
      → IsRefusedCycle m words depth r h cycle
  limit_cycle words depth r cycle limit last (inl none) = absurd (let z = sym (ap is_limit none.lacks.reason) ∙ limit in cc)
  limit_cycle words depth r cycle limit last (inr f) = subst (λ (b : Bool). IsLimitCycle b m f.path cycle) (sym limit) (last f)

  one_limit_cycle : (limit : Bool) (path : List Step) (a b : Option Cycle) → IsLimitCycle limit m path a
      → IsLimitCycle limit m path b → a ≡ b
  one_limit_cycle true path a b h k = one_last_cycle m path a b h k
  one_limit_cycle false path a b h k = h ∙ sym k

  -- a message without a root has none
  no_root_cycle : (v : Reason) (path : List Step) (cycle : Option Cycle) → v ≡ NoRoot
      → IsLimitCycle (is_limit v) m path cycle → cycle ≡ None
  no_root_cycle v path cycle is h = subst (λ (u : Reason). IsLimitCycle (is_limit u) m path cycle) is h

  one_refused_cycle : (words depth : ℕ) (r : Refusal) → OnePath m words depth r → (h k : IsRefused m words depth r)
      (a b : Option Cycle) → IsRefusedCycle m words depth r h a → IsRefusedCycle m words depth r k b → a ≡ b
  one_refused_cycle words depth r paths (inl none) (inl also) a b x y = x ∙ sym y
  one_refused_cycle words depth r paths (inl none) (inr f) a b x y =
      x ∙ sym (no_root_cycle r.reason f.path b none.lacks.reason y)
  one_refused_cycle words depth r paths (inr f) (inl none) a b x y =
      no_root_cycle r.reason f.path a none.lacks.reason x ∙ sym y
  one_refused_cycle words depth r paths (inr f) (inr g) a b x y =
      one_limit_cycle (is_limit r.reason) g.path a b
      (subst (λ (path : List Step). IsLimitCycle (is_limit r.reason) m path a) (paths f g) x) y

-- a fault has one
pub one_fault_cycle : (demands : Demands) (m : List (List ℕ)) (words depth : ℕ) (fault : StrictRefusal)
    → ((r : Refusal) → OnePath m (words_under demands m words) depth r) → (h k : IsDemandFault demands m words depth fault)
    (a b : Option Cycle) → IsFaultCycle demands m words depth fault h a → IsFaultCycle demands m words depth fault k b → a ≡ b
one_fault_cycle demands m words depth (Refused r) paths h k a b x y =
    one_refused_cycle m (words_under demands m words) depth r (paths r) h k a b x y
one_fault_cycle demands m words depth ManySegments paths h k a b x y = x ∙ sym y
one_fault_cycle demands m words depth (Pointer what s w pointers) paths h k a b x y = x ∙ sym y
