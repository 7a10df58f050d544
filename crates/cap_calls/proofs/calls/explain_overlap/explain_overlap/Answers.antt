-- Nothing else is reported of the bytes, the pointer and the capacity.
use Rattle.std.proofs.Common.{Bool, arith, not, subst, ◌≡◌, List, None, Option, Some, ap, refl, sym, ℕ, ◌++◌, ◌∙◌, ◌≤◌}
use Rattle.cap_calls.specs.CallInputs.{ReportsInput}
use Rattle.cap_calls.specs.OverlapCalls.{FindsOverlap, FindsFewOverlapLines, ReportsOverlapCall, both_lines}
use Rattle.cap_calls.specs.OverlapCalls.{explained, none}
use Rattle.cap_calls.proofs.Answers.{by_flag, input_less, one_input_reported, one_returned}
use Rattle.cap_spec.proofs.ProofNames.{rules}
use Rattle.cap_spec.specs.Paths.{IsNumbered}
use Rattle.cap_trace.specs.EarlierPointers.{IsEarlier, IsEarlierOf}
use Rattle.cap_trace.specs.declared.earlier.EarlierPointer.{EarlierPointer}
use Rattle.cap_trace.proofs.Numbering.{one_numbered}
use Rattle.cap_trace.proofs.Sharing.{same_earlier}
use Rattle.cap_explain.specs.Explaining.{earlier_explanation, overlap_lines}
use Rattle.cap_calls.specs.PackCalls.{ReportsText}
use Rattle.cap_calls.specs.CallNames.{Step, allows_trailing, has_no_table, steps_found, Answer, Found, CallLimits}
use Rattle.cap_calls.specs.CallNames.{CallReport}
use Rattle.cap_calls.specs.declared.calls.explain_overlap.OverlapPointer.{OverlapPointer}
use Rattle.cap_calls.proofs.Texts.{one_text}
use Rattle.cap_calls.proofs.calls.explain_overlap.explain_overlap.Goals as goal

-- The bytes, the pointer and the capacity decide what the call that explains an overlap finds.
module _ (has_table : Bool) (p : OverlapPointer) (m : List (List ℕ)) where
  -- one earlier pointer, by one path
  one_earlier_path : (path : List Step) (s w k s' w' k' : ℕ) (h : IsEarlier m path s w k) (j : IsEarlier m path s' w' k')
      → earlier_explanation (Some h.other) s w ≡ earlier_explanation (Some j.other) s' w'
  one_earlier_path path s w k s' w' k' h j =
      let same = same_earlier m path s w k s' w' k' h j in
      let other = one_numbered m k h.other j.other h.numbered
      (subst (λ n. IsNumbered m j.other s' w' n) (sym same.2) j.numbered) in
      rw (same.0, same.1, other) refl

  -- one explanation of a path
  one_both : (path : List Step) (e d : Option EarlierPointer) (h : IsEarlierOf m path e) (k : IsEarlierOf m path d)
      → both_lines has_table p m path e h ≡ both_lines has_table p m path d k
  one_both path None None h k = refl
  one_both path None (Some d) h k = absurd (h k.other k.first.holds)
  one_both path (Some e) None h k = absurd (k h.other h.first.holds)
  one_both path (Some e) (Some d) h k =
      ap (λ (line : List ℕ). overlap_lines has_table (Some path) m None p.segment p.word ++ line)
      (one_earlier_path path e.segment e.word e.pointers d.segment d.word d.pointers h k)

  -- the same of equal paths
  one_both_of : (path other : List Step) → path ≡ other → (e d : Option EarlierPointer) (h : IsEarlierOf m path e)
      (k : IsEarlierOf m other d) → both_lines has_table p m path e h ≡ both_lines has_table p m other d k
  one_both_of path other same e d h =
      subst (λ (u : List Step). (k : IsEarlierOf m u d) → both_lines has_table p m path e h ≡ both_lines has_table p m u d k)
      same (λ k. one_both path e d h k)

  one_overlap : (words depth : ℕ) (old x y : List ℕ) (f g : Found) → FindsOverlap has_table p old x m words depth f
      → FindsOverlap has_table p old y m words depth g → (f ≡ g) × (x ≡ y)
  one_overlap words depth old x y f g (explained path e h a t i) (explained other d k b u j) =
      let same = one_both_of path other (one_numbered m p.number path other a.traceable.numbered b.traceable.numbered) e d h k in
      let text = subst (λ (z : List ℕ). ReportsText z old f.answer f.count x) same t in
      let one = one_text (both_lines has_table p m other d k) old f.answer g.answer f.count g.count x y text u in
      (i ∙ ap (λ z. steps_found z f.count) one.0 ∙ ap (λ z. steps_found g.answer z) one.1 ∙ sym j, one.2)
  one_overlap words depth old x y f g (explained path e h a t i) (none missing j s) = absurd (missing path a)
  one_overlap words depth old x y f g (none missing i s) (explained other d k b u j) = absurd (missing other b)
  one_overlap words depth old x y f g (none missing i s) (none also j u) = (i ∙ sym j, s ∙ sym u)

-- The call answers, writes and reports one thing.
one_overlap_reported : (l : CallLimits) (bs : List ℕ) (p : OverlapPointer) (old : List ℕ) (a b : Answer) (n k : ℕ)
    (x y : List ℕ) (r q : CallReport) → ReportsOverlapCall l bs p old a n x r → ReportsOverlapCall l bs p old b k y q
    → (a ≡ b) × (n ≡ k) × (x ≡ y) × (r ≡ q)
one_overlap_reported l bs p old a b n k x y r q (f, t, h, e) (g, u, i, j) =
    let same = one_input_reported {S = x ≡ y} (not (allows_trailing l)) l bs f g (λ s v. s ∙ sym v)
    (λ m v w c d. one_overlap (not (has_no_table l)) p m l.charge l.depth old x y v w c d) t u in
    let one = one_returned f g a b r q same.0 h i in
    (one.0, e ∙ (ap (λ (z : Found). z.count) same.0 ∙ sym j), same.1, one.1)

-- The lines are few.
few_reported : (whole has_table : Bool) (l : CallLimits) (bs : List ℕ) (p : OverlapPointer) (old new : List ℕ) (f : Found)
    → ReportsInput whole (new ≡ old) (FindsFewOverlapLines has_table p old new) l bs f → f.count ≤ 12288
few_reported whole has_table l bs p old new f h = search rules

pub returns-clause-reports : goal.returns-clause-reports
returns-clause-reports c =
    let l = c.args.limits.now in
    let bs = c.args.bytes.now in
    let old = c.args.text.now in
    let new = c.over_input-answer.new.out in
    let reported = c.over_input-answer.ensures in
    let f = reported.0 in
    let less = input_less (λ k. k) (λ m w d g found. found.0) reported.1 in
    let tabled = subst (λ (no_table : Bool). ReportsInput (not c.allows_trailing-whole.result) (new ≡ old)
    (FindsOverlap (not no_table) c.args.pointer old new) l bs f) c.has_no_table.ensures less in
    (f, by_flag l bs f _ c.allows_trailing-whole.ensures tabled, reported.2, reported.3)

pub returns-clause-only : goal.returns-clause-only
returns-clause-only c = λ a n new r h.
    one_overlap_reported c.args.limits.now c.args.bytes.now c.args.pointer c.args.text.now _ a _ n _ new _ r
    (returns-clause-reports c) h

pub returns-clause-few : goal.returns-clause-few
returns-clause-few c =
    let reported = c.over_input-answer.ensures in
    omega (arith, reported.3, few_reported _ _ c.args.limits.now c.args.bytes.now c.args.pointer c.args.text.now _ reported.0 reported.1)
