-- A message is refused in one way: it has one first fault.
use Rattle.std.proofs.lemmas.List.{append_cancel_right}
use Rattle.cap_spec.specs.Faults.{is_wrong}
use Rattle.cap_spec.proofs.Paths.PathLists.{member_append, member_back, member_front}
use Rattle.cap_spec.proofs.Paths.Preorder.{Before-irreflexive, Before-trans, Rises-distinct, one_first, one_tour}
use Rattle.cap_spec.proofs.Paths.Walks.{one_reached}
use Rattle.cap_spec.proofs.Pointers.Following.{cap-not_wrong, null-not_wrong, object-not_wrong, one_wrong}
use Rattle.cap_spec.proofs.ProofNames.{List, Some, [], ap, arith, inl, inr, length, refl, slice_get, subst, sym, ℕ}
use Rattle.cap_spec.proofs.ProofNames.{◌++◌, ◌+◌, ◌∙◌, ◌∷◌, ◌≡◌, ◌≤◌, ◌⊎◌, AreShallow, HasNoRoot, IsFaultAt}
use Rattle.cap_spec.proofs.ProofNames.{IsFirstFault, IsFirstReason, IsRefused, is_deep, is_past, Wrong, AreDistinct}
use Rattle.cap_spec.proofs.ProofNames.{IsOneOf, Before, Costs, IsTour, Reaches, Rises, CostOf, Reason, Refusal, Step}
use Rattle.cap_spec.proofs.ProofNames.{rules, common_steps}
use Rattle.cap_spec.proofs.Verdicts.OneVerdict.{cost_reached, distinct_cost, take_out}

-- one of some paths and a last one
pub one_of_last : (q p : List Step) (ps : List (List Step)) → IsOneOf q (ps ++ p ∷ []) → (q ≡ p) ⊎ IsOneOf q ps
one_of_last q p ps h =
    elim (member_append q ps (p ∷ []) h) [ inl i ↦ inr i | inr (inl e) ↦ inl e | inr (inr i) ↦ absurd i ]

pub last_is_one : (p q : List Step) (ps : List (List Step)) → IsOneOf q ps → IsOneOf q (ps ++ p ∷ [])
last_is_one p q ps h = member_front q ps (p ∷ []) h

-- distinct paths without the last one, and the last one
pub distinct_last : (paths : List (List Step)) (p : List Step) → AreDistinct (paths ++ p ∷ []) → AreDistinct (p ∷ paths)
distinct_last [] p h = (λ i. i, tt)
distinct_last (q ∷ paths) p h =
    let r = distinct_last paths p h.1 in (none r.0, ((λ i. h.0 (last_is_one p q paths i)), r.1))
  where
    none : ¬ IsOneOf p paths → (p ≡ q) ⊎ IsOneOf p paths → ⊥
    none n (inl e) = h.0 (rw (← e) (member_back p paths (p ∷ []) (inl refl)))
    none n (inr i) = n i

-- what has a cost isn't wrong
pub costs_not_wrong : (m : List (List ℕ)) (s w c : ℕ) (v : Reason) → Costs m s w c → Wrong m s w v → ⊥
costs_not_wrong m s w c v (inl h) k = null-not_wrong m s w c h v k
costs_not_wrong m s w c v (inr (inl (i, h))) k = cap-not_wrong m s w c i h v k
costs_not_wrong m s w c v (inr (inr (k, t, b, q, tag, f, tagged, e))) h = object-not_wrong m s w k t b q f v h

-- one reason is the first
one_reason : (m : List (List ℕ)) (words depth before s w level : ℕ) (u v : Reason)
    → IsFirstReason m words depth before s w level u → IsFirstReason m words depth before s w level v → u ≡ v
one_reason m words depth before s w level u v (is_wrong h) (is_wrong k) = one_wrong m s w u v h k
one_reason m words depth before s w level u v (is_wrong h) (is_deep e (k, t, b, q, tag, f, tagged, past)) =
    absurd (object-not_wrong m s w k t b q f u h)
one_reason m words depth before s w level u v (is_wrong h) (is_past cost e none costs past) =
    absurd (costs_not_wrong m s w cost u costs h)
one_reason m words depth before s w level u v (is_deep e (k, t, b, q, tag, f, tagged, past)) (is_wrong h) =
    absurd (object-not_wrong m s w k t b q f v h)
one_reason m words depth before s w level u v (is_deep e deep) (is_deep e' deep') = e ∙ sym e'
one_reason m words depth before s w level u v (is_deep e deep) (is_past cost e' none costs past) = absurd (none deep)
one_reason m words depth before s w level u v (is_past cost e none costs past) (is_wrong h) =
    absurd (costs_not_wrong m s w cost v costs h)
one_reason m words depth before s w level u v (is_past cost e none costs past) (is_deep e' deep) = absurd (none deep)
one_reason m words depth before s w level u v (is_past cost e none costs past)
    (is_past cost' e' none' costs' past') = e ∙ sym e'

-- Where some paths keep to the limits, there is no fault at one of them after others of them.
pub kept_without_fault : (m : List (List ℕ)) (words depth level charge cost : ℕ) (r : Refusal) (way : List Step)
    (before kept : List (List Step)) → Reaches m way level r.segment r.word → CostOf m before charge
    → IsFirstReason m words depth charge r.segment r.word level r.reason → AreDistinct (way ∷ before)
    → ((q : List Step) → IsOneOf q (way ∷ before) → IsOneOf q kept)
    → CostOf m kept cost → AreShallow m depth kept → cost ≤ words → ⊥
kept_without_fault m words depth level charge cost r way before kept reached costs (is_wrong h) distinct all
    whole shallow within =
    let t = take_out m way kept cost (all way (inl refl)) whole in
    let o = one_reached m way level t.level r.segment r.word t.s t.w reached t.reached in
    let one : Costs m r.segment r.word t.one =
    subst (λ u. Costs m u r.word t.one) (sym o.1) (subst (λ u. Costs m t.s u t.one) (sym o.2) t.costs) in
    costs_not_wrong m r.segment r.word t.one r.reason one h
kept_without_fault m words depth level charge cost r way before kept reached costs (is_deep e deep) distinct all whole
    shallow within = shallow way level r.segment r.word (all way (inl refl)) reached deep
kept_without_fault m words depth level charge cost r way before kept reached costs (is_past one e none own past)
    distinct all whole shallow within =
    let both : CostOf m (way ∷ before) (one + charge) =
    (level, r.segment, r.word, one, charge, reached, own, costs, refl) in
    omega (arith, past, within, distinct_cost m (way ∷ before) kept (one + charge) cost distinct all both whole)

-- the tour up to a fault
pub fault_tour : {m : List (List ℕ)} {words depth : ℕ} {path : List Step} {r : Refusal} → (f : IsFaultAt m words depth path r)
    → IsTour m path (f.before ++ path ∷ [])
fault_tour {m} {words} {depth} {path} {r} f = subst (IsTour m path) f.whole f.numbered.is_tour

-- Where the paths before one keep to the limits, none of them has a fault.
pub none_before : (m : List (List ℕ)) (words depth : ℕ) (path : List Step) (before : List (List Step)) (charge : ℕ)
    → IsTour m path (before ++ path ∷ []) → CostOf m before charge → charge ≤ words → AreShallow m depth before
    → (other : List Step) → Before other path → (r : Refusal) → ¬ IsFaultAt m words depth other r
none_before m words depth path before charge tour costs within shallow other b r f =
    let reached = f.numbered.reached in
    kept_without_fault m words depth f.numbered.level f.charge charge r other f.before before reached f.costs f.reason
    (distinct_last f.before other (Rises-distinct (f.before ++ other ∷ []) (fault_tour f).rising)) all costs
    shallow within
  where
    kept : (q : List Step) (level s w : ℕ) → Reaches m q level s w → Before q path → IsOneOf q before
    kept q level s w h k = elim (one_of_last q path before (tour.all q level s w h (inr k))) [
      | inl e ↦ absurd (Before-irreflexive path (rw e at k))
      | inr i ↦ i
    ]

    all : (q : List Step) → IsOneOf q (other ∷ f.before) → IsOneOf q before
    all q (inl e) = rw e (kept other f.numbered.level r.segment r.word f.numbered.reached b)
    all q (inr i) =
        let c = cost_reached m f.before f.charge q f.costs i in
        elim ((fault_tour f).none_after q (last_is_one other q f.before i)) [
          | inl e ↦ rw e (kept other f.numbered.level r.segment r.word f.numbered.reached b)
          | inr k ↦ kept q c.0 c.1 c.2 c.3 (Before-trans q other path k b)
        ]

-- So the first fault is where the paths before it keep to the limits.
pub first_fault_kept : {m : List (List ℕ)} {words depth : ℕ} {path : List Step} {r : Refusal}
    → (f : IsFaultAt m words depth path r) → f.charge ≤ words → AreShallow m depth f.before → r.pointers ≤ words + 1
    → IsFirstFault m words depth r
first_fault_kept {m} {words} {depth} {path} {r} f within shallow few = record {
  path = path;
  fault = f;
  first = record {
    holds = (r, f);
    first = λ other b (r', g). none_before m words depth path f.before f.charge (fault_tour f) f.costs within shallow
        other b r' g;
  };
  few = few;
}

-- refusals of equal parts are equal
same_refusal : (a b : Refusal) → a.segment ≡ b.segment → a.word ≡ b.word → a.reason ≡ b.reason
    → a.pointers ≡ b.pointers → a ≡ b
same_refusal a b e1 e2 e3 e4 = search rules

-- Faults at one path after the same paths are one refusal.
pub same_fault : (m : List (List ℕ)) (words depth level level' charge charge' : ℕ) (r r' : Refusal) (way : List Step)
    (before before' : List (List Step)) → before ++ way ∷ [] ≡ before' ++ way ∷ []
    → Rises (before ++ way ∷ []) → Reaches m way level r.segment r.word → Reaches m way level' r'.segment r'.word
    → CostOf m before charge → CostOf m before' charge'
    → IsFirstReason m words depth charge r.segment r.word level r.reason
    → IsFirstReason m words depth charge' r'.segment r'.word level' r'.reason
    → r.pointers ≡ length (before ++ way ∷ []) → r'.pointers ≡ length (before' ++ way ∷ []) → r ≡ r'
same_fault m words depth level level' charge charge' r r' way before before' lists rising reached reached' costs costs'
    reason reason' pointers pointers' =
    let same : before ≡ before' = append_cancel_right before before' (way ∷ []) lists in
    let at = one_reached m way level level' r.segment r.word r'.segment r'.word reached reached' in
    let distinct : AreDistinct before = (distinct_last before way (Rises-distinct (before ++ way ∷ []) rising)).1 in
    let other : CostOf m before charge' = rw same costs' in
    let le = distinct_cost m before before charge charge' distinct (λ q i. i) costs other in
    let ge = distinct_cost m before before charge' charge distinct (λ q i. i) other costs in
    let total : charge ≡ charge' = omega arith in
    let first : IsFirstReason m words depth charge r.segment r.word level r'.reason =
    rw (total, at.0, at.1, at.2) reason' in
    same_refusal r r' at.1 at.2 (one_reason m words depth charge r.segment r.word level r.reason r'.reason reason first)
    (pointers ∙ ap length lists ∙ sym pointers')

-- First faults at one path are one refusal.
same_first_fault : (m : List (List ℕ)) (words depth : ℕ) (r r' : Refusal) (f : IsFirstFault m words depth r)
    (f' : IsFirstFault m words depth r') → f'.path ≡ f.path → r ≡ r'
same_first_fault m words depth r r' f f' e =
    let g = f.fault in
    let g' : IsFaultAt m words depth f.path r' = subst (λ u. IsFaultAt m words depth u r') e f'.fault in
    let lists : g.before ++ f.path ∷ [] ≡ g'.before ++ f.path ∷ [] =
    one_tour m f.path (g.before ++ f.path ∷ []) (g'.before ++ f.path ∷ []) (fault_tour g) (fault_tour g') in
    same_fault m words depth g.numbered.level g'.numbered.level g.charge g'.charge r r' f.path g.before g'.before lists
    (fault_tour g).rising g.numbered.reached g'.numbered.reached g.costs g'.costs g.reason g'.reason
    (g.numbered.count ∙ ap length g.whole) (g'.numbered.count ∙ ap length g'.whole)

-- Refusals of a message without a root are one.
pub one_rootless : (m : List (List ℕ)) (r r' : Refusal) → HasNoRoot m r → HasNoRoot m r' → r ≡ r'
one_rootless m r r' h k = search (rules, same_refusal)

-- a message without a root has no pointer that a path reaches
pub rootless : (m : List (List ℕ)) (p : List Step) (level s w : ℕ) → slice_get m 0 ≡ Some [] → Reaches m p level s w → ⊥
rootless x0 p level s w e x6 = grind (arith, common_steps)

-- A message is refused in one way.
pub one_refusal : (m : List (List ℕ)) (words depth : ℕ) (r r' : Refusal) → IsRefused m words depth r
    → IsRefused m words depth r' → r ≡ r'
one_refusal m words depth r r' (inl h) (inl k) = one_rootless m r r' h k
one_refusal m words depth r r' (inl h) (inr f) = search (rules, rootless)
one_refusal m words depth r r' (inr f) (inl h) = search (rules, rootless)
one_refusal m words depth r r' (inr f) (inr f') =
    let n = f.fault.numbered in
    let n' = f'.fault.numbered in
    same_first_fault m words depth r r' f f' (sym (one_first m (λ p. (x : Refusal) × IsFaultAt m words depth p x) f.path
    f'.path n.level n'.level r.segment r.word r'.segment r'.word n.reached n'.reached f.first f'.first))
