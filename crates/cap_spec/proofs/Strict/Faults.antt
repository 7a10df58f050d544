-- An accepted message is strict, or has one fault.
use Rattle.cap_spec.specs.declared.StrictRefusal.{StrictRefusal}
use Rattle.cap_spec.specs.declared.StrictRefusal.TheVariants.{ManySegments, Pointer, Refused}
use Rattle.cap_spec.proofs.ProofNames.{List, ap, arith, inl, inr, length, ℕ, ◌≡◌, ◌≤◌, ◌⊎◌, ∥∥₁_elim, props, cases_lt}
use Rattle.cap_spec.proofs.ProofNames.{IsWithin, IsLax, IsStrict, IsStrictFault, Lax, Step, common_steps, rules}
use Rattle.cap_spec.proofs.Strict.FirstLax.{first_lax_or_none, one_first_lax}
use Rattle.cap_spec.proofs.Verdicts.OneFault.{one_refusal}
use Rattle.cap_spec.proofs.Verdicts.Refusals.{within_not_refused}

-- An accepted message is strict, or has a fault.
pub strict_or_fault : (m : List (List ℕ)) (words depth : ℕ) → IsWithin m words depth → length m ≤ 512
    → IsStrict m words depth ⊎ ((fault : StrictRefusal) × IsStrictFault m words depth fault)
strict_or_fault m words depth (t, c, d, a) few = elim (cases_lt 511 (length m)) [
  | inl many ↦ inr (ManySegments, ((t, c, d, a), omega (arith, many, few)))
  | inr fits ↦ elim (first_lax_or_none m t c d a.denotes) [
    | inl (s, w, what, pointers, first) ↦ inr (Pointer what s w pointers, ((t, c, d, a), fits, first))
    | inr none ↦ inl (record { accepted = (t, c, d, a); few_segments = fits; none = none })
  ]
]

-- It isn't both.
pub strict_not_fault : (m : List (List ℕ)) (words depth : ℕ) (fault : StrictRefusal) → IsStrict m words depth
    → ¬ IsStrictFault m words depth fault
strict_not_fault m words depth (Refused refusal) h f = within_not_refused m words depth refusal h.accepted f
strict_not_fault m words depth ManySegments h f = absurd (omega (arith, h.few_segments, f.1))
strict_not_fault m words depth (Pointer what s w pointers) h f = h.none f.2.path f.2.first.holds

-- faults of equal parts are equal
pub same_pointer : (u v : Lax) (s w n s' w' n' : ℕ) → s ≡ s' → w ≡ w' → u ≡ v → n ≡ n'
    → Pointer u s w n ≡ Pointer v s' w' n'
same_pointer u v s w n s' w' n' e1 e2 e3 e4 = cc

-- It has one fault.
pub one_strict_fault : (m : List (List ℕ)) (words depth : ℕ) (f g : StrictRefusal) → IsStrictFault m words depth f
    → IsStrictFault m words depth g → f ≡ g
one_strict_fault m words depth (Refused r) (Refused r') h k = ap Refused (one_refusal m words depth r r' h k)
one_strict_fault m words depth (Pointer u s w n) (Pointer v s' w' n') h k =
    let e = one_first_lax m s w u n s' w' v n' h.2 k.2 in
    same_pointer u v s w n s' w' n' e.0 e.1 e.2 e.3
one_strict_fault m words depth f g h k = search (rules, within_not_refused)

-- What is accepted within limits is accepted within wider ones,
pub within_wider : (m : List (List ℕ)) (words depth words' depth' : ℕ) → IsWithin m words depth → words ≤ words'
    → depth ≤ depth' → IsWithin m words' depth'
within_wider m words depth words' depth' (t, c, n, a) w d = search rules

-- and strict where it is strict.
pub strict_wider : (m : List (List ℕ)) (words depth words' depth' : ℕ) → IsStrict m words depth → words ≤ words'
    → depth ≤ depth' → IsStrict m words' depth'
strict_wider m words depth words' depth' h w d = grind (arith, common_steps)

-- Of what may be strict it is known that it has few segments and no such pointer.
pub strict_kept : (m : List (List ℕ)) (words depth : ℕ) → ∥ IsStrict m words depth ∥₁
    → (length m ≤ 511) × ((path : List Step) → ¬ IsLax m path)
strict_kept m words depth h =
    let one : IsProp ⊥ = hlevel props in
    let one_le : IsProp (length m ≤ 511) = hlevel props in
    (∥∥₁_elim h one_le (λ s. s.few_segments), λ path x. ∥∥₁_elim h one (λ s. s.none path x))
