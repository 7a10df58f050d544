-- A null word leaves the marks as they are: the law of the turn that marks words (profile).
use Rattle.std.proofs.Common.{arith, inl, inr, subst, sym}
use Rattle.std.specs.Prelude.{List, None, Option, Some, [], refl, ℕ, ◌∷◌, ◌≡◌}
use Rattle.cap_spec.specs.Occupying.{on_earlier, on_root, twice}
use Rattle.cap_spec.specs.SpecNames.{near, AreDistinct, IsOneOf, HasWord, Occupies, Overlaps, Uses, Reaches}
use Rattle.cap_spec.specs.declared.Step.{Step}
use Rattle.cap_spec.proofs.Disjoint.Overlaps.{one_used}
use Rattle.cap_spec.proofs.Paths.Walks.{one_reached}
use Rattle.cap_vet.specs.OverlapSteps.{KnowsMarks}
use Rattle.cap_vet.specs.Taken.{HasMarked}
use Rattle.cap_vet.specs.declared.exclusiveness.marks.Marks.{Marks}
use Rattle.cap_vet.specs.declared.exclusiveness.overlap_turn.Overlap.{Overlap}

-- a null word uses nothing
null_used : (m : List (List ℕ)) (s w : ℕ) → HasWord m s w 0 → Occupies m s w []
null_used m s w has = (0, has, inl (0, near 0 has (omega arith) refl refl, refl))

null_uses_none : (m : List (List ℕ)) (p : List Step) (level s w level' s' w' : ℕ) (used : List (ℕ × ℕ)) → Reaches m p level s w → HasWord m s w 0
    → Reaches m p level' s' w' → Occupies m s' w' used → used ≡ []
null_uses_none m p level s w level' s' w' used r has r' o =
    let same = one_reached m p level level' s w s' w' r r' in
    let o2 : Occupies m s w used = subst (λ (v : ℕ). Occupies m v w used) (sym same.1) (subst (λ (v : ℕ). Occupies m s' v used) (sym same.2) o) in
    one_used m s w used [] o2 (null_used m s w has)

null_no_use : (m : List (List ℕ)) (p : List Step) (level s w : ℕ) (x : ℕ × ℕ) → Reaches m p level s w → HasWord m s w 0 → Uses m p x → ⊥
null_no_use m p level s w x r has (level', s', w', used, r', o, i) =
    subst (λ (v : List (ℕ × ℕ)). IsOneOf x v) (null_uses_none m p level s w level' s' w' used r has r' o) i

null_no_overlap : (m : List (List ℕ)) (p : List Step) (level s w : ℕ) → Reaches m p level s w → HasWord m s w 0 → Overlaps m p → ⊥
null_no_overlap m p level s w r has (twice level' s' w' used r' o n) =
    n (subst AreDistinct (sym (null_uses_none m p level s w level' s' w' used r has r' o)) tt)
null_no_overlap m p level s w r has (on_root u) = null_no_use m p level s w (0, 0) r has u
null_no_overlap m p level s w r has (on_earlier other x b u v) = null_no_use m p level s w x r has v

null_marked : (m : List (List ℕ)) (seen : List (List Step)) (p : List Step) (level s w : ℕ) (starts bits : List ℕ) → Reaches m p level s w → HasWord m s w 0
    → HasMarked m seen starts bits → HasMarked m (p ∷ seen) starts bits
null_marked m seen p level s w starts bits r has k = record {
  fits = k.fits;
  marked = record {
    root = k.marked.root;
    used = λ q s' w' one u. elim one [
      | inl e ↦ absurd (null_no_use m p level s w (s', w') r has (subst (λ (v : List Step). Uses m v (s', w')) e u))
      | inr i ↦ k.marked.used q s' w' i u
    ];
    only = λ s' w' taken. elim (k.marked.only s' w' taken) [ inl e ↦ inl e | inr (q, i, u) ↦ inr (q, inr i, u) ];
    clear = λ q one. elim one [
      | inl e ↦ (λ over. null_no_overlap m p level s w r has (subst (λ (v : List Step). Overlaps m v) e over))
      | inr i ↦ k.marked.clear q i
    ];
  };
}

pub null_known_marks : (m : List (List ℕ)) (seen : List (List Step)) (p : List Step) (level s w : ℕ) (marks : Marks) (first : Option Overlap)
    → Reaches m p level s w → HasWord m s w 0 → KnowsMarks m seen marks first → KnowsMarks m (p ∷ seen) marks first
null_known_marks m seen p level s w marks None r has k = null_marked m seen p level s w marks.starts.now marks.bits.now r has k
null_known_marks m seen p level s w marks (Some first) r has k = k
