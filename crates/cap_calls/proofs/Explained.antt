-- The bytes and the buffer decide what the call that explains a refusal finds and writes.
use Rattle.cap_spec.proofs.ProofNames.{◌∷◌, plain_words, rules}
use Rattle.std.proofs.Common.{Bool, List, None, Option, [], ap, arith, inl, inr, not, subst, sym, ℕ, ◌∙◌, ◌≡◌, ◌≢◌, ◌≤◌, ◌⊎◌}
use Rattle.std.specs.Prelude.{⊤}
use Rattle.cap_spec.specs.declared.Lax.{Lax}
use Rattle.cap_spec.specs.declared.Reason.{Reason}
use Rattle.cap_walk.specs.Demands.{IsDemandFault, words_under}
use Rattle.cap_explain.specs.Cycles.{IsFaultCycle}
use Rattle.cap_explain.proofs.Charges.{one_fault_charge}
use Rattle.cap_explain.proofs.Cycles.{one_fault_cycle}
use Rattle.cap_trace.specs.NamedPaths.{fault_path}
use Rattle.cap_trace.specs.declared.returning.Cycle.{Cycle}
use Rattle.cap_explain.specs.Explaining.{explanation}
use Rattle.cap_explain.specs.ExplainedFaults.{fault_lines, fault_numbers}
use Rattle.cap_explain.proofs.ExplainedFaults.{one_path_of}
use Rattle.cap_trace.proofs.Named.{one_path}
use Rattle.cap_walk.proofs.OneReport.{one_report}
use Rattle.cap_calls.specs.AnswerNumbers.{lax_answer}
use Rattle.cap_calls.specs.CallFindings.{without}
use Rattle.cap_calls.specs.ExplainCalls.{FindsFewLines, FindsLines, PutsText, ReportsExplanation, accepted, explained}
use Rattle.cap_calls.specs.ExplainCalls.{frame_line, uncounted, written}
use Rattle.cap_calls.specs.CallNames.{Step, StrictRefusal, Demands, Judges, ReportsWhole, accepted_found, framed, refused_found}
use Rattle.cap_calls.specs.CallNames.{reports, trailing, allows_trailing, demands_of, has_no_table, of_frame, of_no_words, of_words}
use Rattle.cap_calls.specs.CallNames.{IsGood, ReportsInput, ReportsVet, Answer, Found, CallLimits, CallReport}
use Rattle.cap_calls.specs.CallNames.{reason_answer, refusal_answer, Good}
use Rattle.cap_calls.proofs.Answers.{input_less, meets_no_fault, one_demand_fault, one_input_reported, one_vet_reported}
use Rattle.cap_calls.specs.CallFindings as finding

-- a text and a buffer allow one result
one_put : (text old : List ℕ) (n k : ℕ) (xs ys : List ℕ) → PutsText text old n xs → PutsText text old k ys → (n ≡ k) × (xs ≡ ys)
one_put text old n k xs ys h j = search rules

module _ (has_table : Bool) (demands : Demands) (m : List (List ℕ)) (words depth : ℕ) where
  -- A fault has one explanation.
  one_explanation : (r q : StrictRefusal) → r ≡ q → (h : IsDemandFault demands m words depth r)
      (k : IsDemandFault demands m words depth q) (a b : Option Cycle) → IsFaultCycle demands m words depth r h a
      → IsFaultCycle demands m words depth q k b
      → fault_lines has_table demands m words depth r h a None ≡ fault_lines has_table demands m words depth q k b None
  one_explanation r q e =
      subst (λ (u : StrictRefusal). (h : IsDemandFault demands m words depth r) (k : IsDemandFault demands m words depth u)
      (a b : Option Cycle) → IsFaultCycle demands m words depth r h a → IsFaultCycle demands m words depth u k b
      → fault_lines has_table demands m words depth r h a None ≡ fault_lines has_table demands m words depth u k b None) e
      (λ h k a b x y. ap (λ (path : Option (List Step)). explanation path m r (fault_numbers has_table demands m words depth r h a None))
      (one_path demands m words depth r h k)
      ∙ ap (λ (charge : Option ℕ). explanation (fault_path demands m words depth r k) m r
      (record { words = words_under demands m words; depth = depth; charge = charge; cycle = a; has_table = has_table; start = None }))
      (one_fault_charge demands m words depth r (one_path_of demands m words depth) h k)
      ∙ ap (λ (cycle : Option Cycle). fault_lines has_table demands m words depth r k cycle None)
      (one_fault_cycle demands m words depth r (one_path_of demands m words depth) h k a b x y))

  one_lines : (old x y : List ℕ) (n k : ℕ) (f g : Found) → FindsLines has_table old n x demands m words depth f
      → FindsLines has_table old k y demands m words depth g → (f ≡ g) × ((n ≡ k) × (x ≡ y))
  one_lines old x y n k f g (explained r h l c t e) (explained q j v d u i) =
      let same = one_demand_fault demands m words depth r q h j in
      let text = one_explanation r q same h j l v c d in (
        e ∙ ap refused_found same ∙ sym i,
        one_put (fault_lines has_table demands m words depth q j v None) old n k x y (subst (λ z. PutsText z old n x) text t) u,
      )
  one_lines old x y n k f g (explained r h l z t e) (accepted q j o i c d) = absurd (meets_no_fault demands m words depth r o h)
  one_lines old x y n k f g (accepted r h o e a b) (explained q j l z u i) = absurd (meets_no_fault demands m words depth q o j)
  one_lines old x y n k f g (accepted r h o e a b) (accepted q j v i c d) =
      let same = one_report m (words_under demands m words) depth r q h j in
      (e ∙ ap (accepted_found Good 0) same ∙ sym i, (a ∙ sym c, b ∙ sym d))

  -- The lines are those of a verdict.
  pub lines_judged : (old new : List ℕ) (n : ℕ) (f : Found) → FindsLines has_table old n new demands m words depth f
      → Judges demands ⊤ IsGood m words depth f
  lines_judged old new n f (explained r h l c t e) = finding.refused r h e tt
  lines_judged old new n f (accepted r h o e a b) = finding.accepted r h o e

-- So the call returns and reports what the call that vets does.
pub explains_vets : (l : CallLimits) (bs old : List ℕ) (a : Answer) (n : ℕ) (new : List ℕ) (r : CallReport)
    → ReportsExplanation l bs old a n new r → ReportsVet l bs a r
explains_vets l bs old a n new r (f, t, h) =
    (f, input_less (λ _. tt) (λ m w d g p. lines_judged (not (has_no_table l)) (demands_of l) m w d old new n g p) t, h)

-- The call answers, writes and reports one thing.
pub one_explanation_reported : (l : CallLimits) (bs old : List ℕ) (a b : Answer) (n k : ℕ) (x y : List ℕ) (r q : CallReport)
    → ReportsExplanation l bs old a n x r → ReportsExplanation l bs old b k y q
    → (a ≡ b) × (n ≡ k) × (x ≡ y) × (r ≡ q)
one_explanation_reported l bs old a b n k x y r q s v =
    let one = one_vet_reported l bs a b r q (explains_vets l bs old a n x r s) (explains_vets l bs old b k y q v) in
    let same = one_input_reported {S = (n ≡ k) × (x ≡ y)} (not (allows_trailing l)) l bs s.0 v.0
    (λ c d. one_put (frame_line b) old n k x y (subst (λ z. PutsText (frame_line z) old n x) one.0 c) d)
    (λ m f g c d. one_lines (not (has_no_table l)) (demands_of l) m l.charge l.depth old x y n k f g c d) s.1 v.1 in
    (one.0, same.1.0, same.1.1, one.1)

-- The lines are few.
pub few_lines : (whole has_table : Bool) (l : CallLimits) (bs old new : List ℕ) (demands : Demands) (f : Found)
    → ReportsInput whole (new ≡ old) (FindsFewLines has_table old new demands) l bs f → f.count ≤ 6144
few_lines whole has_table l bs old new demands f x8 = search rules

-- A message that is refused has no line of a frame.
no_reason_line : (r : Reason) → frame_line (reason_answer r) ≡ []
no_reason_line r = search rules

no_lax_line : (what : Lax) → frame_line (lax_answer what) ≡ []
no_lax_line what = search rules

no_refusal_line : (r : StrictRefusal) → frame_line (refusal_answer r) ≡ []
no_refusal_line r = search (rules, no_reason_line, no_lax_line)

no_line : (has_table : Bool) (demands : Demands) (m : List (List ℕ)) (words depth : ℕ) (old new : List ℕ) (n : ℕ) (f : Found)
    → FindsLines has_table old n new demands m words depth f → frame_line f.answer ≡ []
no_line has_table demands m words depth old new n f (explained r h l c t e) =
    ap (λ (z : Found). frame_line z.answer) e ∙ no_refusal_line r
no_line has_table demands m words depth old new n f (accepted r h o e a b) = ap (λ (z : Found). frame_line z.answer) e

-- What is found with a number is found without it.
reports_uncounted : {K L : Type 0} {P Q : List (List ℕ) → ℕ → ℕ → Found → Type 0} {whole : Bool} {l : CallLimits}
    {bs : List ℕ} {f : Found}
    → (K → f.count ≡ 0 → L)
    → ((m : List (List ℕ)) (w d : ℕ) (g : Found) → g.count ≡ f.count → g.answer ≡ f.answer → P m w d g → Q m w d (uncounted g))
    → ReportsWhole whole K P l bs f → ReportsWhole whole L Q l bs (uncounted f)
reports_uncounted k p (trailing m x y t h more e i) = trailing m x y t h more (ap uncounted e) (k i (ap (λ (z : Found). z.count) e))
reports_uncounted k p (reports none (without c h e x)) =
    reports none (without c h (ap uncounted e) (k x (ap (λ (z : Found). z.count) e)))
reports_uncounted {l = l} k p (reports none (framed m x y g h i e)) =
    reports none (framed m x y (uncounted g) h
    (p m l.charge l.depth g (sym (ap (λ (z : Found). z.count) e)) (sym (ap (λ (z : Found). z.answer) e)) i) (ap uncounted e))

input_uncounted : {K L : Type 0} {P Q : List (List ℕ) → ℕ → ℕ → Found → Type 0} {whole : Bool} {l : CallLimits}
    {bs : List ℕ} {f : Found}
    → (K → f.count ≡ 0 → L)
    → ((m : List (List ℕ)) (w d : ℕ) (g : Found) → g.count ≡ f.count → g.answer ≡ f.answer → P m w d g → Q m w d (uncounted g))
    → ReportsInput whole K P l bs f → ReportsInput whole L Q l bs (uncounted f)
input_uncounted k p (of_frame n t) = of_frame n (reports_uncounted k p t)
input_uncounted k p (of_no_words y c h e x) = of_no_words y c h (ap uncounted e) (k x (ap (λ (z : Found). z.count) e))
input_uncounted {l = l} {bs = bs} k p (of_words y g h i e) =
    of_words y (uncounted g) h
    (p (plain_words bs ∷ []) l.charge l.depth g (sym (ap (λ (z : Found). z.count) e)) (sym (ap (λ (z : Found). z.answer) e)) i)
    (ap uncounted e)

-- Nothing is put after the lines of a message, and the line of a frame is put where there are none.
pub explained_input : (whole has_table : Bool) (l : CallLimits) (bs old mid new : List ℕ) (demands : Demands) (f : Found)
    (a : Answer) (k n : ℕ) → a ≡ f.answer → k ≡ f.count
    → ((frame_line a ≡ []) × (n ≡ k) × (new ≡ mid)) ⊎ ((frame_line a ≢ []) × PutsText (frame_line a) mid n new)
    → ReportsInput whole (mid ≡ old) (FindsFewLines has_table old mid demands) l bs f
    → ReportsInput whole (PutsText (frame_line a) old n new) (FindsLines has_table old n new demands) l bs (uncounted f)
explained_input whole has_table l bs old mid new demands f a k n same total (inl (none, count, kept)) t =
    input_uncounted
    (λ same zero. subst (λ z. PutsText z old n new) (sym none) (written (omega arith) (count ∙ total ∙ zero) (kept ∙ same)))
    (λ m w d g c _ p. subst (λ z. FindsLines has_table old n z demands m w d (uncounted g)) (sym kept)
    (subst (λ z. FindsLines has_table old z mid demands m w d (uncounted g)) (c ∙ sym (count ∙ total)) p.0)) t
explained_input whole has_table l bs old mid new demands f a k n same total (inr (some, puts)) t =
    input_uncounted (λ kept _. subst (λ z. PutsText (frame_line a) z n new) kept puts)
    (λ m w d g _ e p. absurd (some (ap frame_line (same ∙ sym e) ∙ no_line has_table demands m w d old mid g.count (uncounted g) p.0))) t
