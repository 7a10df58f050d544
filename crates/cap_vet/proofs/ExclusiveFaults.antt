-- A message has one fault for which it isn't exclusive over capacity, or none.
use Rattle.cap_spec.proofs.Lemmas.{none_of_disjoint, one_overlap, one_refusal}
use Rattle.cap_spec.proofs.ProofNames.{List, ap, ap₂, arith, inl, refl, sym, ℕ, ◌∙◌, ◌≡◌, ◌≤◌, ◌⊎◌, IsDisjoint}
use Rattle.cap_spec.proofs.ProofNames.{IsFirstOverlap, rules}
use Rattle.cap_vet.specs.Exclusives.{IsExclusiveRefusal}
use Rattle.cap_vet.specs.VetNames.{Demands, IsExclusiveFault, IsAccepted, Meets, marks_of}
use Rattle.cap_vet.specs.declared.exclusiveness.exclusive_buffer.ExclusiveFault.TheVariants.{BufferTooSmall, Overlap}
use Rattle.cap_vet.specs.VetNames.{Report}
use Rattle.cap_vet.specs.declared.exclusiveness.exclusive_buffer.ExclusiveFault.{ExclusiveFault}
use Rattle.cap_vet.specs.declared.exclusiveness.exclusive_buffer.ExclusiveFault.TheVariants.{Refused}
use Rattle.cap_vet.specs.declared.exclusiveness.exclusive_vetting.ExclusiveRefusal.{ExclusiveRefusal}
use Rattle.cap_vet.specs.declared.exclusiveness.exclusive_vetting.ExclusiveRefusal.TheVariants as refusal
use Rattle.cap_vet.proofs.Demanding.{no_fault_under}
use Rattle.cap_walk.proofs.OneReport.{not_both, one_report}

-- there is one fault,
pub one_exclusive_fault : (m : List (List ℕ)) (words depth capacity : ℕ) (a b : ExclusiveFault)
    → IsExclusiveFault m words depth capacity a → IsExclusiveFault m words depth capacity b → a ≡ b
one_exclusive_fault m words depth capacity (Refused r) (Refused q) h k = ap Refused (one_refusal m words depth r q h k)
one_exclusive_fault m words depth capacity (Refused r) (BufferTooSmall n b) h k = absurd (not_both m words depth b r k.0 h)
one_exclusive_fault m words depth capacity (Refused r) (Overlap s w n) h k = absurd (not_both m words depth k.0 r k.1 h)
one_exclusive_fault m words depth capacity (BufferTooSmall n a) (Refused q) h k = absurd (not_both m words depth a q h.0 k)
one_exclusive_fault m words depth capacity (BufferTooSmall n a) (BufferTooSmall n' b) h k = ap₂ BufferTooSmall (h.2 ∙ sym k.2) (one_report m words depth a b h.0 k.0)
one_exclusive_fault m words depth capacity (BufferTooSmall n a) (Overlap s w n') h k = absurd (search rules)
one_exclusive_fault m words depth capacity (Overlap s w n) (Refused q) h k = absurd (not_both m words depth h.0 q h.1 k)
one_exclusive_fault m words depth capacity (Overlap s w n) (BufferTooSmall n' b) h k = absurd (omega (arith, h.2, k.1, k.2))
one_exclusive_fault m words depth capacity (Overlap s w n) (Overlap s' w' n') h k = (let same = one_overlap m s w n s' w' n' h.3 k.3 in cc)

-- and none where it is accepted and disjoint and there is capacity
pub no_exclusive_fault : (m : List (List ℕ)) (words : ℕ) {depth capacity : ℕ} (report : Report) (x : ExclusiveFault)
    → IsAccepted m words depth report → IsDisjoint m → marks_of m ≤ capacity
    → IsExclusiveFault m words depth capacity x → ⊥
no_exclusive_fault m words {depth} report (Refused r) a d l h = not_both m words depth report r a h
no_exclusive_fault m words report (BufferTooSmall n b) a d l h = omega (arith, l, h.1, h.2)
no_exclusive_fault m words report (Overlap s w n) a d l h = none_of_disjoint m d h.3.path h.3.first.holds

-- Under demands a message that isn't accepted has that one fault,
module _ (demands : Demands) (m : List (List ℕ)) (words depth : ℕ) where
  -- one without an overlap has none but out of memory,
  pub only_memory : (x : ExclusiveRefusal) → IsExclusiveRefusal demands m words depth x → Meets demands m words depth
      → IsDisjoint m → x ≡ refusal.Memory
  only_memory refusal.Memory h met d = refl
  only_memory x h met d = search (rules, no_fault_under, none_of_disjoint)

  -- and one with an overlap has that or out of memory.
  pub only_overlap : (x : ExclusiveRefusal) (s w n : ℕ) → IsExclusiveRefusal demands m words depth x
      → Meets demands m words depth → IsFirstOverlap m s w n → (x ≡ refusal.Overlap s w n) ⊎ (x ≡ refusal.Memory)
  only_overlap (refusal.Overlap s' w' n') s w n h met f = (let same = one_overlap m s' w' n' s w n h.1 f in inl (cc))
  only_overlap x s w n h met f = search (rules, no_fault_under)
