-- What a walk finds that looks for the first difference.
use Rattle.cap_spec.specs.declared.Step.{Step}
use Rattle.cap_spec.proofs.Lemmas.{Before-irreflexive, one_of_last, one_reached}
use Rattle.cap_spec.proofs.Paths.Preorder.{Rises-same}
use Rattle.cap_spec.proofs.ProofNames.{IfSome, List, None, Option, Some, [], ap, arith, inl, inr, length, length-append, refl, subst, sym, ℕ, ◌++◌, ◌+◌, ◌<◌, ◌∷◌}
use Rattle.cap_spec.proofs.ProofNames.{◌∙◌, ◌≡◌, ◌≤◌, ◌⊎◌, IsOneOf, Before, Reaches, segment_of}
use Rattle.cap_walk.specs.Reports.{IsVetted}
use Rattle.cap_walk.specs.Trails.{Ahead, IsTrail}
use Rattle.cap_walk.specs.Walking.{IsLookedAt}
use Rattle.cap_walk.specs.declared.report.Report.{Report}
use Rattle.cap_difference.specs.Differences.{DiffersAt, EndsBefore, FirstDifference, HasWordsAfter, HasWordsBelow, HaveWords}
use Rattle.cap_difference.specs.Differences.{IsAtPointer, IsFirstPointer}
use Rattle.cap_difference.specs.Reasons.{IsFirstSuchReason, PointerDiffers}
use Rattle.cap_difference.specs.Searching.{IsSameSoFar, same_on}
use Rattle.cap_difference.specs.declared.difference.Difference.{Difference}
use Rattle.cap_difference.specs.declared.reason.DifferenceReason.{DifferenceReason}
use Rattle.cap_difference.specs.declared.reason.DifferenceReason.TheVariants.{Trailing}
use Rattle.cap_difference.proofs.OneDifference.{one_difference}
use Rattle.std.specs.Prelude.{IfNone}
use Rattle.cap_difference.proofs.Ends.{one_end, one_words, preorder_words}
use Rattle.cap_difference.proofs.Preorders.{length-preorder, preorder, preorder_from, preorder_rises, preorder_to, trail_tour}

-- The walk has looked at the word s:w, number n, after paths at which nothing differs.
module _ (m : List (List ℕ)) (seen : List (List Step)) (a : Ahead) (s w n cost end : ℕ) (l : IsLookedAt m seen a s w n cost)
    (k : IsSameSoFar m end seen) where
  reached : Reaches m a.path a.level s w
  reached = rw (l.segment, l.word) at l.trail.ahead_reached.0

  ends : EndsBefore m a.path end
  ends = record {
    before = preorder seen;
    is_tour = trail_tour m seen a l.later l.trail;
    words = k.words;
    have = preorder_words m seen k.words k.have;
    ends = k.ends;
  }

  -- If its pointer differs, it is the first that does.
  stops_here : (v : DifferenceReason) → IsFirstSuchReason (PointerDiffers m s w end) v → IsFirstPointer m s w n v
  stops_here v x =
      let tour = trail_tour m seen a l.later l.trail in
      let many = length-append (preorder seen) (a.path ∷ []) in
      let all = length-preorder seen in record {
        path = a.path;
        numbered = record {
          level = a.level;
          tour = preorder seen ++ a.path ∷ [];
          reached = reached;
          is_tour = tour;
          count = omega (arith, l.number, many, all);
        };
        end = end;
        ends = ends;
        differs = x;
        first = record {
          holds = record {
            level = a.level;
            segment = s;
            word = w;
            end = end;
            reason = v;
            reached = reached;
            ends = ends;
            differs = x.holds;
          };
          first = λ q b d. before q b d (one_of_last q a.path (preorder seen)
              (tour.all q d.level d.segment d.word d.reached (inr b)));
        };
      }
    where
      before : (q : List Step) → Before q a.path → DiffersAt m q → (q ≡ a.path) ⊎ IsOneOf q (preorder seen) → ⊥
      before q b d (inl e) = Before-irreflexive a.path (subst (λ (u : List Step). Before u a.path) e b)
      before q b d (inr i) = k.same q (preorder_from q seen i) d

  -- That is where the copy ends.
  pub stops_at : (v : DifferenceReason) → IsFirstSuchReason (PointerDiffers m s w end) v
      → IsAtPointer m record { segment = s; word = w; pointers = n; reason = v; end = end }
  unfolding stops_here
  stops_at v x = record { one = k.one; first = stops_here v x; end = refl }

  -- If it doesn't, nothing differs after it either.
  pub same_here : (now : ℕ) → ((n' : ℕ) × HasWordsBelow m s w n' × (now ≡ end + n'))
      → ((v : DifferenceReason) → ¬ PointerDiffers m s w end v) → IsSameSoFar m now (a.path ∷ seen)
  same_here now (n', below, e) none = same_on m end now n' seen a.path a.level s w reached below e differs k
    where
      differs : DiffersAt m a.path → ⊥
      differs d =
          let o = one_reached m a.path d.level a.level d.segment d.word s w d.reached reached in
          let e = one_end m a.path d.end end d.ends ends in
          none d.reason (subst (λ u. PointerDiffers m s w u d.reason) e
          (subst (λ u. PointerDiffers m s u d.end d.reason) o.2 (subst (λ u. PointerDiffers m u d.word d.end d.reason) o.1 d.differs)))

-- what says of a result that it is a difference after the last object, or that no words are there
abbrev pub TellsSome : List (List ℕ) → ℕ → Report → Option Difference → Type 0
TellsSome m end report r = IfSome r (λ d. (d.reason ≡ Trailing) × (d.segment ≡ 0) × (d.word ≡ end) × (d.pointers ≡ report.pointers)
    × (d.end ≡ end) × (end < length (segment_of m 0)))

abbrev pub TellsNone : List (List ℕ) → ℕ → Option Difference → Type 0
TellsNone m end r = IfNone r (length (segment_of m 0) ≤ end)

-- Nothing differs at any path.
module _ (m : List (List ℕ)) (end : ℕ) (report : Report) (vetted : IsVetted m report) (seen : List (List Step)) (t : IsTrail m seen [])
    (k : IsSameSoFar m end seen) where
  none_differs : (q : List Step) → DiffersAt m q → ⊥
  none_differs q d = elim (t.complete q d.level d.segment d.word d.reached) [ inl i ↦ k.same q i d | inr u ↦ absurd u ]

  all_seen : (q : List Step) (level s w : ℕ) → Reaches m q level s w → IsOneOf q (preorder seen)
  all_seen q level s w r = elim (t.complete q level s w r) [ inl i ↦ preorder_to q seen i | inr u ↦ absurd u ]

  pub words_after : end < length (segment_of m 0) → HasWordsAfter m end report.pointers
  words_after after = record {
    paths = preorder seen;
    rising = preorder_rises seen t.falls;
    reached = λ q i. t.seen_reached q (preorder_from q seen i);
    all = all_seen;
    words = k.words;
    have = preorder_words m seen k.words k.have;
    ends = k.ends;
    after = after;
    same = none_differs;
    tree = vetted.0;
    charge = report.charge;
    depth = report.depth;
    denotes = vetted.1.within.denotes;
    many = vetted.1.pointers;
  }

  -- If no words come after the last object, there is no difference.
  pub none_found : length (segment_of m 0) ≤ end → (d : Difference) → FirstDifference m d → ⊥
  none_found short d (inl f) = f.many k.one
  none_found short d (inr (inl f)) = none_differs f.first.path f.first.first.holds
  none_found short d (inr (inr f)) =
      let x = f.after in
      let paths = Rises-same x.paths (preorder seen) x.rising (preorder_rises seen t.falls)
      (λ q i. let r = x.reached q i in all_seen q r.0 r.1 r.2 r.3)
      (λ q i. let r = t.seen_reached q (preorder_from q seen i) in x.all q r.0 r.1 r.2 r.3) in
      let words = one_words m (preorder seen) x.words k.words (subst (λ ps. HaveWords m ps x.words) paths x.have)
      (preorder_words m seen k.words k.have) in
      omega (arith, words, x.ends, k.ends, x.after, short)

  pub some_found : (r : Option Difference) → TellsSome m end report r → IfSome r (FirstDifference m)
  some_found None h = h
  some_found (Some d) h = inr (inr record {
    reason = h.0;
    one = k.one;
    segment = h.1;
    after = rw (h.2, h.3) (words_after h.5);
    end = h.4 ∙ sym h.2;
  })

  pub none_left : (r : Option Difference) → TellsNone m end r → IfNone r ((d : Difference) → ¬ FirstDifference m d)
  none_left None h = none_found h
  none_left (Some d) h = h

  pub found_names : (r : Option Difference) → TellsSome m end report r → TellsNone m end r → (d : Difference) → FirstDifference m d → r ≡ Some d
  found_names None h k' d f = absurd (none_found k' d f)
  found_names (Some e) h k' d f = ap Some (one_difference m e d (some_found (Some e) h) f)
