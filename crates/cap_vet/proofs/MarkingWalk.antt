-- The turns and the end of a walk that marks words.
use Rattle.std.proofs.Common.{is_some}
use Rattle.cap_spec.specs.Denoting.{places}
use Rattle.cap_spec.proofs.Lemmas.{disjoint_of_none, none_of_disjoint, lead_word}
use Rattle.cap_spec.proofs.ProofNames.{List, Option, [], arith, false, inl, inr, length, refl, true, ℕ, ◌++◌, ◌∷◌}
use Rattle.cap_spec.proofs.ProofNames.{◌≡◌, ∥∥₁_elim, props, IsDisjoint, IsFirstOverlap, Occupies, pads_of, Costs}
use Rattle.cap_spec.proofs.ProofNames.{Some, extent, rules}
use Rattle.cap_vet.specs.VetNames.{Step, Conflicts, IsMarked, IsTrail, MarksAll, Ahead, IsLookedAt}
use Rattle.cap_vet.specs.OverlapSteps.{KnowsMarks, KnowsOverlap}
use Rattle.cap_vet.specs.Overlapping.{EndsMarking, OverlapsFirst}
use Rattle.cap_vet.specs.Taken.{HasMarked, HasCapacity}
use Rattle.cap_vet.specs.declared.exclusiveness.marks.Marks.{Marks}
use Rattle.cap_vet.specs.declared.exclusiveness.overlap_turn.Overlap.{Overlap}
use Rattle.cap_vet.proofs.Marking.{all_disjoint, first_overlap, marks_on}

-- what costs something uses places
used_at : (m : List (List ℕ)) (s w cost : ℕ) → Costs m s w cost → (used : List (ℕ × ℕ)) × Occupies m s w used
used_at m s w cost (inl h) = let p = lead_word m s w cost _ h in (pads_of p.0, (p.0, p.1, inl (cost, h, refl)))
used_at m s w cost (inr (inl (i, h))) = let p = lead_word m s w cost _ h in (pads_of p.0, (p.0, p.1, inr (inl (cost, i, h, refl))))
used_at m s w cost (inr (inr (k, t, b, q, tag, f, has, e))) = let p =
    lead_word m s w k _ f.leads in (pads_of p.0 ++ places t b (extent q), (p.0, p.1, inr (inr (k, t, b, q, f, refl))))

-- a turn at a word whose places were free
pub turn_on : {m : List (List ℕ)} (seen : List (List Step)) (a : Ahead) {s w n cost : ℕ} {T T' : ℕ → ℕ → Type 0} → IsLookedAt m seen a s w n cost
    → IsMarked m seen T
    → ((used : List (ℕ × ℕ)) → Occupies m s w used → MarksAll T T' used) → IsMarked m (a.path ∷ seen) T'
turn_on {m} seen a {s} {w} {cost} {T} {T'} l k marks =
    let u = used_at m s w cost l.costs in
    marks_on m seen a l.later T T' u.0 l.trail k (rw (l.segment, l.word) u.1) (marks u.0 u.1)

-- a word whose places weren't all free
pub turn_overlap : {m : List (List ℕ)} (seen : List (List Step)) (a : Ahead) {s w n cost : ℕ} {T : ℕ → ℕ → Type 0} → IsLookedAt m seen a s w n cost
    → IsMarked m seen T
    → ((used : List (ℕ × ℕ)) × Occupies m s w used × Conflicts T used) → IsFirstOverlap m s w n
turn_overlap {m} seen a {n} {T} l k (used, o, c) =
    let o2 : Occupies m a.segment a.word used = rw (l.segment, l.word) o in
    rw (← l.segment, ← l.word) (first_overlap m seen a l.later T used n l.trail k o2 c l.number)

-- where none has overlapped yet, the words of these paths are marked,
pub marks_known : (m : List (List ℕ)) (seen : List (List Step)) (marks : Marks) (first : Option Overlap) → is_some first ≡ false
    → KnowsMarks m seen marks first → HasMarked m seen marks.starts.now marks.bits.now
marks_known m seen marks first e k = search rules

-- and the marks of one path more say so of this one too
pub known_marks : (m : List (List ℕ)) (seen : List (List Step)) (marks : Marks) (first : Option Overlap) → is_some first ≡ false
    → HasMarked m seen marks.starts.now marks.bits.now → KnowsMarks m seen marks first
known_marks m seen marks first e k = search rules

-- the first that overlaps stays the first
pub still_overlaps : (m : List (List ℕ)) (seen more : List (List Step)) (marks : Marks) (first : Option Overlap) → is_some first ≡ true
    → KnowsMarks m seen marks first → KnowsMarks m more marks first
still_overlaps m seen more marks first e k = search rules

-- and is the first
pub kept_overlaps : (m : List (List ℕ)) (seen : List (List Step)) (marks : Marks) (first : Option Overlap) (o : Overlap) → first ≡ Some o
    → KnowsMarks m seen marks first → OverlapsFirst m o
kept_overlaps m seen marks first o e k = search rules

-- the end
pub ends_marking : (m : List (List ℕ)) (seen : List (List Step)) (first : Option Overlap) → IsTrail m seen []
    → KnowsOverlap m seen first → EndsMarking m first
ends_marking m seen first t k = search (rules, all_disjoint)

-- there is capacity whatever is marked
pub capacity_kept : (m : List (List ℕ)) (starts marks after : List ℕ) → HasCapacity m starts marks → length after ≡ length marks → HasCapacity m starts after
capacity_kept m starts marks after h e = record { known = h.known; enough = omega (arith, h.enough, e) }

-- where nothing was marked, the root word's own mark is the first
pub root_marked : (m : List (List ℕ)) (T T' : ℕ → ℕ → Type 0) → ((s w : ℕ) → T s w → ⊥) → MarksAll T T' ((0, 0) ∷ []) → IsMarked m [] T'
root_marked m T T' none h = search rules

-- whether a message is disjoint is one fact
pub disjoint_kept : (m : List (List ℕ)) → ∥ IsDisjoint m ∥₁ → IsDisjoint m
disjoint_kept m h = disjoint_of_none m (λ p over. ∥∥₁_elim h (hlevel props) (λ d. none_of_disjoint m d p over))
