-- The bytes and the steps decide what the call for the nodes of a range finds.
use Rattle.std.proofs.Common.{ext_get_or, get_or-set_other, get_or-set_same, slice_set}
use Rattle.cap_spec.specs.declared.Lax.{Lax}
use Rattle.cap_spec.proofs.ProofNames.{List, ap, arith, get_or, inl, inr, length, length-set, not, refl, subst}
use Rattle.cap_spec.proofs.ProofNames.{sym, ℕ, ◌+◌, ◌<◌, ◌∙◌, ◌≡◌, ◌≤◌, leb_tells, rules}
use Rattle.cap_calls.specs.AnswerNumbers.{lax_answer}
use Rattle.cap_calls.specs.CallNames.{Reason, Step, StrictRefusal, Demands, reason_answer}
use Rattle.cap_calls.specs.CallNames.{refusal_answer, refused_found, allows_trailing, demands_of, none_node, Gets}
use Rattle.cap_calls.specs.CallNames.{path_found, AreStepKinds, EndsRange, GetsRange, ReportsRange, full}
use Rattle.cap_calls.specs.CallNames.{path_after, stops, WritesFirst, Answer, Good, NoNode, Found, CallLimits}
use Rattle.cap_calls.specs.CallNames.{CallNode, CallReport, CallStep}
use Rattle.cap_calls.specs.RangeCalls.{IsBadStep, ReportsSteps, bad_limits, bad_steps, range}
use Rattle.cap_calls.proofs.Answers.{one_returned, one_whole_reported}
use Rattle.cap_calls.proofs.Gotten.{limits_alone, one_gets}

-- A refusal isn't good.
no_good_reason : (r : Reason) → reason_answer r ≡ Good → ⊥
no_good_reason r e = search rules

no_good_lax : (what : Lax) → lax_answer what ≡ Good → ⊥
no_good_lax what e = search rules

no_good_refusal : (r : StrictRefusal) → refusal_answer r ≡ Good → ⊥
no_good_refusal r e = search (rules, no_good_reason, no_good_lax)

pub refused_not_good : (r : StrictRefusal) → refused_found r ≡ path_found Good → ⊥
refused_not_good r e = no_good_refusal r (ap (λ (f : Found). f.answer) e)

pub nothing_not_good : path_found NoNode ≡ path_found Good → ⊥
nothing_not_good e = let f : NoNode ≡ Good = ap (λ (f : Found). f.answer) e in absurd (cc f)

-- Where no node is written, and where one more is.
module _ (so : ℕ → CallNode → Type 0) (old : List CallNode) where
  pub none_written : WritesFirst so 0 old old
  none_written = record { size = refl; within = omega arith; nodes = λ j l. absurd (omega (arith, l)); rest = λ j l. refl }

  pub more_written : (new after : List CallNode) (k : ℕ) (node : CallNode) → WritesFirst so k old new
      → k < length new → so k node → after ≡ slice_set new k node → WritesFirst so (k + 1) old after
  more_written new after k node are lt is e = search (rules, length-set, get_or-set_other, slice_set, get_or-set_same)

-- Nodes that are so are so in another way too.
pub written_also : (so also : ℕ → CallNode → Type 0) (old new : List CallNode) (k : ℕ)
    → ((j : ℕ) (node : CallNode) → so j node → also j node) → WritesFirst so k old new → WritesFirst also k old new
written_also so also old new k f are = search rules

-- The first k nodes of a range were got, and the others are as they were.
abbrev pub RangeSoFar : (ℕ → List Step) → List CallNode → List CallNode → Demands → List (List ℕ) → ℕ → ℕ → ℕ → Type 0
RangeSoFar path old new demands m words depth k =
    WritesFirst (λ j node. Gets (path j) node demands m words depth (path_found Good)) k old new

module _ (path : ℕ → List Step) {old : List CallNode} {demands : Demands} {m : List (List ℕ)} {w d : ℕ} where
  -- one node more
  pub more_so_far : (new after : List CallNode) (k : ℕ) (node : CallNode) → RangeSoFar path old new demands m w d k
      → k < length new → Gets (path k) node demands m w d (path_found Good) → after ≡ slice_set new k node
      → RangeSoFar path old after demands m w d (k + 1)
  more_so_far = more_written (λ j node. Gets (path j) node demands m w d (path_found Good)) old

  -- all nodes
  pub range_full : (new : List CallNode) (k : ℕ) (f : Found) → RangeSoFar path old new demands m w d k → k ≡ length old
      → f ≡ record (path_found Good) { count = k } → GetsRange path old new demands m w d f
  range_full new k f so all e =
      let count : f.count ≡ k = ap (λ (x : Found). x.count) e in
      record {
        size = so.size;
        nodes = λ j l. so.nodes j (omega (arith, l, count));
        rest = λ j l. so.rest j (omega (arith, l, count));
        end = full (e ∙ ap (λ (n : ℕ). record (path_found Good) { count = n }) all);
      }

  -- the first path without one
  pub range_stops : (new : List CallNode) (k : ℕ) (f g : Found) → RangeSoFar path old new demands m w d k → k < length old
      → Gets (path k) none_node demands m w d g → (g ≡ path_found Good → ⊥) → f ≡ record g { count = k }
      → GetsRange path old new demands m w d f
  range_stops new k f g so lt gets other e =
      let count : f.count ≡ k = ap (λ (x : Found). x.count) e in
      record {
        size = so.size;
        nodes = λ j l. so.nodes j (omega (arith, l, count));
        rest = λ j l. so.rest j (omega (arith, l, count));
        end = stops (omega (arith, lt, count)) g
            (subst (λ (i : ℕ). Gets (path i) none_node demands m w d g) (sym count) gets) other
            (e ∙ ap (λ (n : ℕ). record g { count = n }) (sym count));
      }

module _ (path : ℕ → List Step) (old : List CallNode) (demands : Demands) (m : List (List ℕ)) (w d : ℕ) where
  -- A range doesn't stop where another has a node.
  not_before : (x y : List CallNode) (f g : Found) → GetsRange path old x demands m w d f → GetsRange path old y demands m w d g
      → g.count < f.count → f.count ≤ length old → ⊥
  not_before x y f g a b lt le = by_end b.end
    where
      by_end : EndsRange path (length old) demands m w d g → ⊥
      by_end (full e) = let n : g.count ≡ length old = ap (λ (z : Found). z.count) e in omega (arith, n, lt, le)
      by_end (stops l h gets other e) =
          other (sym (one_gets (path g.count) demands (get_or x g.count none_node) none_node m w d (path_found Good) h (a.nodes g.count lt) gets).0)

  within_count : (f : Found) → EndsRange path (length old) demands m w d f → f.count ≤ length old
  within_count f x2 = search rules

  one_count : (x y : List CallNode) (f g : Found) → GetsRange path old x demands m w d f → GetsRange path old y demands m w d g
      → f.count ≡ g.count
  one_count x y f g a b = elim (leb_tells f.count g.count) [
    | inl le ↦ elim (leb_tells g.count f.count) [
      | inl ge ↦ (let p = le.1 in let q = ge.1 in omega (arith, p, q))
      | inr lt ↦ absurd (not_before y x g f b a lt.1 (within_count g b.end))
    ]
    | inr lt ↦ absurd (not_before x y f g a b lt.1 (within_count f a.end))
  ]

  one_end : (f g : Found) → f.count ≡ g.count → EndsRange path (length old) demands m w d f
      → EndsRange path (length old) demands m w d g → f ≡ g
  one_end f g n (full e) (full i) = e ∙ sym i
  one_end f g n (full e) (stops l h gets other i) = search rules
  one_end f g n (stops l h gets other e) (full i) = search rules
  one_end f g n (stops l h gets other e) (stops k j also none i) =
      let there = subst (λ (c : ℕ). Gets (path c) none_node demands m w d j) (sym n) also in
      let same = (one_gets (path f.count) demands none_node none_node m w d h j gets there).0 in
      e ∙ ap (λ (z : Found). record z { count = f.count }) same ∙ ap (λ (c : ℕ). record j { count = c }) n ∙ sym i

  pub one_range : (x y : List CallNode) (f g : Found) → GetsRange path old x demands m w d f
      → GetsRange path old y demands m w d g → (f ≡ g) × (x ≡ y)
  one_range x y f g a b =
      let n = one_count x y f g a b in (
        one_end f g n a.end b.end,
        ext_get_or none_node x y (a.size ∙ sym b.size) (λ k low. elim (leb_tells f.count k) [
          | inl le ↦ (let l = le.1 in a.rest k l ∙ sym (b.rest k (omega (arith, l, n))))
          | inr lt ↦ (let l = lt.1 in
              (one_gets (path k) demands (get_or x k none_node) (get_or y k none_node) m w d (path_found Good) (path_found Good)
              (a.nodes k l) (b.nodes k (omega (arith, l, n)))).1)
        ]),
      )

-- Steps are bad in one way, and aren't good then.
one_bad_step : (steps : List CallStep) (v a b : ℕ) → IsBadStep steps v a → IsBadStep steps v b → a ≡ b
one_bad_step steps v a b h k = search rules

good_steps : (steps : List CallStep) (v a : ℕ) → AreStepKinds steps v → IsBadStep steps v a → ⊥
good_steps steps v a are x5 = search rules

module _ (l : CallLimits) (bs : List ℕ) (steps : List CallStep) (v : ℕ) (old : List CallNode) where
  one_reported_steps : (x y : List CallNode) (f g : Found) → ReportsSteps l bs steps v old x f → ReportsSteps l bs steps v old y g
      → (f ≡ g) × (x ≡ y)
  one_reported_steps x y f g (bad_limits h e n) (bad_limits k i o) = (e ∙ sym i, n ∙ sym o)
  one_reported_steps x y f g (bad_limits h e n) (bad_steps at are bad i o) = absurd (h are)
  one_reported_steps x y f g (bad_limits h e n) (range are t) = search (rules, limits_alone)
  one_reported_steps x y f g (bad_steps at are bad e n) (bad_limits k i o) = absurd (k are)
  one_reported_steps x y f g (bad_steps at are bad e n) (bad_steps at' are' bad' i o) = search (rules, one_bad_step)
  one_reported_steps x y f g (bad_steps at are bad e n) (range good t) = absurd (good_steps steps v at good bad)
  one_reported_steps x y f g (range are t) (bad_limits k i o) = search (rules, limits_alone)
  one_reported_steps x y f g (range good t) (bad_steps at are bad i o) = absurd (good_steps steps v at good bad)
  one_reported_steps x y f g (range good t) (range also u) =
      one_whole_reported {S = x ≡ y} (not (allows_trailing l)) l bs f g (λ a b. a ∙ sym b)
      (λ m a b r s. one_range (λ k. path_after steps v k) old (demands_of l) m l.charge l.depth x y a b r s) t u

  pub one_range_reported : (a b : Answer) (p q : ℕ) (x y : List CallNode) (r s : CallReport)
      → ReportsRange l bs steps v old a p x r → ReportsRange l bs steps v old b q y s
      → (a ≡ b) × (p ≡ q) × (x ≡ y) × (r ≡ s)
  one_range_reported a b p q x y r s (f, t, h, n) (g, u, k, o) =
      search (rules, one_reported_steps x y f g t u, one_returned f g a b r s (one_reported_steps x y f g t u).0 h k)
