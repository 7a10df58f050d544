use Rattle.cap_spec.proofs.ProofNames.{List, [], ap, length, refl, subst, sum, sym, true, ℕ, ◌∙◌, ◌∷◌, ◌≡◌, ◌≢◌, ⊤}
use Rattle.cap_spec.proofs.ProofNames.{plain_words, sizes_of}
use Rattle.cap_walk.specs.declared.report.Report.{Report}
use Rattle.cap_calls.specs.CallFindings.{accepted, detail_of, without}
use Rattle.cap_calls.specs.CallFlags.{charge_limit}
use Rattle.cap_calls.specs.CallNames.{Answer, CallLimits, CallReport, Demands, Found, Judges, ReportsInput}
use Rattle.cap_calls.specs.CallNames.{accepted_found, demands_of, framed, framed_found, of_frame, of_no_words, of_words}
use Rattle.cap_calls.specs.CallNames.{refused, reports, trailing}
use Rattle.cap_calls.specs.Calls.{IsCheck, ReportsCheck}
use Rattle.cap_calls.specs.DifferenceCalls.{IsDifferent, ReportsDifference, canonical, different}
use Rattle.cap_calls.specs.declared.answer.Answer.TheVariants.{NotCanonical}
use Rattle.cap_calls.proofs.Answers.{one_check_reported}
use Rattle.cap_calls.specs.Calls as check
use Rattle.cap_calls.proofs.laws.first_differences_have_the_answer_of_the_check.Goals as goal

-- A first difference has the answer of the check, and the report but for its place and its reason.
-- this report with the reason, the place and the number of the pointer of the first one
abbrev with_place : CallReport → CallReport → CallReport
with_place r q = record q { detail = r.detail; pointers = r.pointers; segment = r.segment; word = r.word }

-- what is found has the answer of the other, and its report but for these
record IsBeside (f g : Found) : Type 0 where
  answer : f.answer ≡ g.answer
  same : f.answer ≢ NotCanonical → f ≡ g
  report : f.report ≡ with_place f.report g.report

itself : (f : Found) → IsBeside f f
itself f = record { answer = refl; same = λ other. refl; report = refl }

-- of an accepted message
of_message : (m : List (List ℕ)) (r : Report) (f : Found) → IsDifferent m r f → (g : Found) × IsCheck m r g × IsBeside f g
of_message m r f (canonical h e) = (f, check.canonical h e, itself f)
of_message m r f (different h d first e) = (
  accepted_found NotCanonical 0 r,
  check.not_canonical h refl,
  subst (λ (z : Found). IsBeside z (accepted_found NotCanonical 0 r)) (sym e)
      (record { answer = refl; same = λ other. absurd (other refl); report = refl }),
)

-- of any message
of_judged : (demands : Demands) (m : List (List ℕ)) (w d : ℕ) (f : Found) → Judges demands ⊤ IsDifferent m w d f
    → (g : Found) × Judges demands ⊤ IsCheck m w d g × IsBeside f g
of_judged demands m w d f (refused r h e k) = (f, refused r h e k, itself f)
of_judged demands m w d f (accepted r h n p) = let (g, q, b) = of_message m r f p in (g, accepted r h n q, b)

-- the same with the extent of the frame
with_frame : (l : CallLimits) (x : ℕ) (m : List (List ℕ)) (f g h : Found) → f ≡ framed_found l x m g → IsBeside g h
    → IsBeside f (framed_found l x m h)
with_frame l x m f g h e b =
    subst (λ (z : Found). IsBeside z (framed_found l x m h)) (sym e)
    (record {
      answer = b.answer;
      same = λ other. ap (framed_found l x m) (b.same other);
      report = ap (λ (z : CallReport). record z {
        length = x;
        segments = length m;
        words = sum (sizes_of m);
        detail = detail_of g.answer (charge_limit l m) g.report.detail;
        pointers = g.report.pointers;
        segment = g.report.segment;
        word = g.report.word;
      }) b.report;
    })

-- of the input
of_input : (l : CallLimits) (bs : List ℕ) (f : Found) → ReportsInput true ⊤ (Judges (demands_of l) ⊤ IsDifferent) l bs f
    → (g : Found) × ReportsInput true ⊤ (Judges (demands_of l) ⊤ IsCheck) l bs g × IsBeside f g
of_input l bs f (of_frame n (trailing m x y t h more e k)) = (f, of_frame n (trailing m x y t h more e k), itself f)
of_input l bs f (of_frame n (reports none (without c h e k))) = (f, of_frame n (reports none (without c h e k)), itself f)
of_input l bs f (of_frame n (reports none (framed m x y g h p e))) =
    let (k, q, b) = of_judged (demands_of l) m l.charge l.depth g p in
    (framed_found l x m k, of_frame n (reports none (framed m x y k h q refl)), with_frame l x m f g k e b)
of_input l bs f (of_no_words y c h e k) = (f, of_no_words y c h e k, itself f)
of_input l bs f (of_words y g h p e) =
    let m = plain_words bs ∷ [] in
    let (k, q, b) = of_judged (demands_of l) m l.charge l.depth g p in
    (framed_found l (length bs) m k, of_words y k h q refl, with_frame l (length bs) m f g k e b)

module _ (l : CallLimits) (bs : List ℕ) (a b : Answer) (r q : CallReport) where
  -- the check of the same bytes
  record IsOfCheck : Type 0 where
    found : Found
    other : Found
    answer : a ≡ found.answer
    report : r ≡ found.report
    beside : IsBeside found other
    same : (other.answer ≡ b) × (other.report ≡ q)

  of_check : ReportsDifference l bs a r → ReportsCheck l bs b q → IsOfCheck
  of_check (f, t, (e, i)) u =
      let (g, v, beside) = of_input l bs f t in
      record {
        found = f;
        other = g;
        answer = e;
        report = i;
        beside = beside;
        same = one_check_reported l bs g.answer b g.report q (g, v, (refl, refl)) u;
      }

  pub answered_as_check : ReportsDifference l bs a r → ReportsCheck l bs b q → a ≡ b
  answered_as_check t u = let k = of_check t u in k.answer ∙ k.beside.answer ∙ k.same.0

  pub reported_as_check : ReportsDifference l bs a r → ReportsCheck l bs b q → a ≢ NotCanonical → r ≡ q
  reported_as_check t u other =
      let k = of_check t u in
      k.report ∙ ap (λ (z : Found). z.report) (k.beside.same (λ e. other (k.answer ∙ e))) ∙ k.same.1

  pub same_but_for_the_place : ReportsDifference l bs a r → ReportsCheck l bs b q → r ≡ with_place r q
  same_but_for_the_place t u =
      let k = of_check t u in
      subst (λ (z : CallReport). z ≡ with_place z q) (sym k.report)
      (k.beside.report ∙ ap (λ (z : CallReport). with_place k.found.report z) k.same.1)

pub returns-clause-answer : goal.returns-clause-answer
returns-clause-answer c = answered_as_check

pub returns-clause-same : goal.returns-clause-same
returns-clause-same c = reported_as_check

pub returns-clause-report : goal.returns-clause-report
returns-clause-report c = same_but_for_the_place
