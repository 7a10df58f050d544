-- The first reason why a pointer isn't as a copy has it.
use Rattle.cap_spec.specs.declared.Kind.{Kind}
use Rattle.cap_spec.specs.declared.Kind.TheVariants.{Pointers, Scalars, Struct, Structs}
use Rattle.cap_spec.proofs.Lemmas.{one_found, one_lead, one_word}
use Rattle.cap_spec.proofs.ProofNames.{List, ap, arith, refl, rules, subst, ℕ, ◌<◌, ◌≡◌, ◌≢◌, ◌≤◌, FindsKind, HasWord, Leads, kind}
use Rattle.cap_spec.proofs.ProofNames.{to_cap}
use Rattle.cap_difference.specs.Reasons.{IsFirstSuchReason, ObjectDiffers, PointerDiffers, bits_after, empty_list, empty_struct}
use Rattle.cap_difference.specs.Reasons.{in_object, is_capability, is_far, pointers_place, difference_rank, struct_null, struct_place}
use Rattle.cap_difference.specs.Reasons.{struct_zero, structs_null, structs_place, structs_zero, surplus, values_place}
use Rattle.cap_difference.specs.declared.reason.DifferenceReason.{DifferenceReason}
use Rattle.cap_difference.specs.declared.reason.DifferenceReason.TheVariants.{Capability, Far}

-- the reasons of objects come after those of pointers
pub object_rank : (m : List (List ℕ)) (end p t b q : ℕ) (what : Kind) (v : DifferenceReason) → ObjectDiffers m end p t b q what v → 3 ≤ difference_rank v
object_rank m end p t b q (Struct ds ps) v (empty_struct e h k) = let r = ap difference_rank e in omega (arith, r)
object_rank m end p t b q (Struct ds ps) v (struct_place e h k) = let r = ap difference_rank e in omega (arith, r)
object_rank m end p t b q (Struct ds ps) v (struct_zero e h) = let r = ap difference_rank e in omega (arith, r)
object_rank m end p t b q (Struct ds ps) v (struct_null e h) = let r = ap difference_rank e in omega (arith, r)
object_rank m end p t b q (Scalars c n) v (values_place e h) = let r = ap difference_rank e in omega (arith, r)
object_rank m end p t b q (Scalars c n) v (bits_after e h) = let r = ap difference_rank e in omega (arith, r)
object_rank m end p t b q (Pointers n) v (pointers_place e h) = let r = ap difference_rank e in omega (arith, r)
object_rank m end p t b q (Structs n ds ps) v (structs_place e h) = let r = ap difference_rank e in omega (arith, r)
object_rank m end p t b q (Structs n ds ps) v (empty_list e h k) = let r = ap difference_rank e in omega (arith, r)
object_rank m end p t b q (Structs n ds ps) v (surplus e h) = let r = ap difference_rank e in omega (arith, r)
object_rank m end p t b q (Structs n ds ps) v (structs_zero e h k) = let r = ap difference_rank e in omega (arith, r)
object_rank m end p t b q (Structs n ds ps) v (structs_null e h k) = let r = ap difference_rank e in omega (arith, r)
object_rank m end p t b q what v h = search rules

-- one object of a pointer word differs by each of its descriptions
pub object_moved : (m : List (List ℕ)) (s w end k t b q tag k' t' b' q' tag' p p' : ℕ) (what what' : Kind) (v : DifferenceReason)
    → HasWord m s w p → HasWord m s w p' → FindsKind m s w what k t b q tag → FindsKind m s w what' k' t' b' q' tag'
    → ObjectDiffers m end p' t' b' q' what' v → ObjectDiffers m end p t b q what v
object_moved m s w end k t b q tag k' t' b' q' tag' p p' what what' v has has' f g x =
    let o = one_found f g in
    rw (one_word m s w p p' has has', o.segment, o.start, o.shape, o.kind) x

-- a far pointer differs for no reason before that
pub far_first : (m : List (List ℕ)) (s w end p : ℕ) → HasWord m s w p → kind p ≡ 2 → IsFirstSuchReason (PointerDiffers m s w end) Far
far_first m s w end p has f = record { holds = is_far refl p has f; first = λ u lt d. none u lt d }
  where
    none : (u : DifferenceReason) → difference_rank u < 1 → PointerDiffers m s w end u → ⊥
    none u lt (is_far e q h i) = let r = ap difference_rank e in omega (arith, lt, r)
    none u lt (is_capability e k i x) = let r = ap difference_rank e in omega (arith, lt, r)
    none u lt (in_object q k t b z tag what h g x) = let r = object_rank m end q t b z what u x in omega (arith, lt, r)

-- The pointer word p at s:w isn't far.
module _ (m : List (List ℕ)) (s w end p : ℕ) (has : HasWord m s w p) (near : kind p ≢ 2) where
  isnt_far : (q : ℕ) → HasWord m s w q → kind q ≡ 2 → ⊥
  isnt_far q h f = near (subst (λ u. kind u ≡ 2) (one_word m s w q p h has) f)

  pub capability_first : (k i : ℕ) → Leads m s w k (to_cap i) → IsFirstSuchReason (PointerDiffers m s w end) Capability
  capability_first k i lead = record { holds = is_capability refl k i lead; first = λ u lt d. none u lt d }
    where
      none : (u : DifferenceReason) → difference_rank u < 2 → PointerDiffers m s w end u → ⊥
      none u lt (is_far e q h f) = isnt_far q h f
      none u lt (is_capability e k i x) = let r = ap difference_rank e in omega (arith, lt, r)
      none u lt (in_object q k t b z tag what h g x) = let r = object_rank m end q t b z what u x in omega (arith, lt, r)

  module _ (k t b q tag : ℕ) (what : Kind) (found : FindsKind m s w what k t b q tag) where
    isnt_cap : (k' i : ℕ) → Leads m s w k' (to_cap i) → ⊥
    isnt_cap k' i x = let e = (one_lead m s w k k' _ _ found.finds.leads x).1 in cc

    pub object_first : (v : DifferenceReason) → IsFirstSuchReason (ObjectDiffers m end p t b q what) v → IsFirstSuchReason (PointerDiffers m s w end) v
    object_first v x = record { holds = in_object p k t b q tag what has found x.holds; first = λ u lt d. none u lt d }
      where
        none : (u : DifferenceReason) → difference_rank u < difference_rank v → PointerDiffers m s w end u → ⊥
        none u lt (is_far e z h f) = isnt_far z h f
        none u lt (is_capability e k' i y) = isnt_cap k' i y
        none u lt (in_object z k' t' b' q' tag' what' h g y) =
            x.first u lt (object_moved m s w end k t b q tag k' t' b' q' tag' p z what what' u has h found g y)

    pub object_same : ((v : DifferenceReason) → ¬ ObjectDiffers m end p t b q what v) → (v : DifferenceReason) → PointerDiffers m s w end v → ⊥
    object_same none v (is_far e z h f) = isnt_far z h f
    object_same none v (is_capability e k' i y) = isnt_cap k' i y
    object_same none v (in_object z k' t' b' q' tag' what' h g y) =
        none v (object_moved m s w end k t b q tag k' t' b' q' tag' p z what what' v has h found g y)
