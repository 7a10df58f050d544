-- The pointer that an answer names has its path.
use Rattle.std.proofs.Common.{IsFalse, IsTrue}
use Rattle.std.proofs.Math.Nat.{min-le_left}
use Rattle.cap_spec.specs.declared.StrictRefusal.TheVariants.{Refused}
use Rattle.cap_spec.specs.Paths.{Before}
use Rattle.cap_spec.proofs.Lemmas.{Before-trans}
use Rattle.cap_spec.proofs.Paths.PathCounts.{pointers_counted}
use Rattle.cap_spec.proofs.ProofNames.{Bool, List, [], ap, arith, false, if◌then◌else◌, inl, inr, length, min, not, refl}
use Rattle.cap_spec.proofs.ProofNames.{subst, sum, sym, true, ℕ, ◌+◌, ◌∙◌, ◌∷◌, ◌≡◌, ◌≢◌, ◌≤◌, ◌⊎◌, ⊤, IsNumbered, IsWithin}
use Rattle.cap_spec.proofs.ProofNames.{plain_words, rules, sizes_of}
use Rattle.cap_spec.proofs.Trees.Charges.{pointers_charged}
use Rattle.cap_trace.proofs.Numbering.{one_numbered, rises_fewer}
use Rattle.cap_trace.proofs.Sharing.{earlier_traceable}
use Rattle.cap_trace.proofs.Traceable.{accepted_traceable, fault_traceable, lax_traceable, overlap_traceable}
use Rattle.cap_vet.specs.VetNames.{IsDemandFault, words_under}
use Rattle.cap_calls.specs.CallFindings.{accepted, detail_of, without}
use Rattle.cap_calls.specs.CallFlags.{charge_limit}
use Rattle.cap_calls.specs.CallReports.{refused_report}
use Rattle.cap_calls.specs.CallLaws.{FindsPlace, HasMessage, NamesPointer, PointerCall}
use Rattle.cap_calls.specs.CallNames.{Reason, Step, StrictRefusal, ManySegments, Pointer, Demands, Report, reason_answer}
use Rattle.cap_calls.specs.CallNames.{refusal_answer, Judges, framed, framed_found, refused}
use Rattle.cap_calls.specs.CallNames.{refused_found, reports, trailing, allows_trailing, demands_of, has_no_table}
use Rattle.cap_calls.specs.CallNames.{HasFrame, HasTrailing, IsSegment, ReportsInput, of_frame, of_no_words, of_words}
use Rattle.cap_calls.specs.CallNames.{cause_answer, IsGood, Marks, exclusive, overlap, Answer, Found}
use Rattle.cap_calls.specs.CallNames.{NoFrame, CallLimits, CallReport}
use Rattle.cap_calls.specs.Calls.{ReportsVet}
use Rattle.cap_calls.specs.DifferenceCalls.{IsDifferent, ReportsDifference, canonical, different}
use Rattle.cap_calls.specs.DifferenceNumbers.{reason_number}
use Rattle.cap_calls.specs.EarlierCalls.{FindsEarlierCall, ReportsEarlierCall, earlier}
use Rattle.cap_calls.specs.ExclusiveCalls.{FindsMarks, ReportsExclusive, too_small}
use Rattle.cap_calls.specs.PointerCalls.{FindsPointer, IsNumberedPath, written}
use Rattle.cap_calls.proofs.Answers.{no_cause, one_extent}
use Rattle.cap_calls.proofs.Words.{no_word_cause, one_input}
use Rattle.cap_calls.specs.EarlierCalls as earlier_call
use Rattle.cap_calls.specs.PointerCalls as pointer
use Rattle.cap_calls.specs.declared.answer.Answer.TheVariants as answer
use Rattle.cap_difference.specs.declared.reason.DifferenceReason.TheVariants as reason

-- The pointer word at s:w is number n, and a verdict may have this number.
record IsNamed (m : List (List ℕ)) (words depth s w n : ℕ) : Type 0 where
  path : List Step
  counted : IsNumberedPath m words depth n path
  numbered : IsNumbered m path s w n

-- the demands make no limit higher
under_least : (b : Bool) (x y : ℕ) → (if b then min x y else x) ≤ x
under_least true x y = min-le_left x y
under_least false x y = omega arith

under : (demands : Demands) (m : List (List ℕ)) (words : ℕ) → words_under demands m words ≤ words
under demands m words = under_least demands.unamplified words (sum (sizes_of m) + 4096)

-- Of an accepted message each pointer has a number that a verdict may have.
number_within : (m : List (List ℕ)) (words depth n s w : ℕ) (path : List Step) → IsWithin m words depth
    → IsNumbered m path s w n → n ≤ words + 1
number_within m words depth n s w path (t, c, d, a) h =
    let k = pointers_counted m t c d a.denotes in
    let few = rises_fewer h.tour k.0 h.is_tour.rising k.1 (λ q i. (k.3 q).1 (h.is_tour.reached q i)) in
    omega (arith, few, k.2, pointers_charged m 0 0 t c d a.denotes, a.few_words, h.count)

-- the pointer at which a message doesn't meet the demands
fault_named : (demands : Demands) (m : List (List ℕ)) (words depth : ℕ) (fault : StrictRefusal) (g : Found)
    → NamesPointer g.answer → g ≡ refused_found fault → IsDemandFault demands m words depth fault
    → IsNamed m words depth g.report.segment g.report.word g.report.pointers
fault_named demands m words depth fault g names e h =
    subst (λ (z : Found). IsNamed m words depth z.report.segment z.report.word z.report.pointers) (sym e)
    (by_fault fault (subst (λ (z : Found). NamesPointer z.answer) e names) h)
  where
    by_fault : (fault : StrictRefusal) → NamesPointer (refusal_answer fault) → IsDemandFault demands m words depth fault
        → IsNamed m words depth (refused_report fault).segment (refused_report fault).word (refused_report fault).pointers
    by_fault (Refused r) names (inl lacks) = absurd (subst (λ v. NamesPointer (reason_answer v)) lacks.lacks.reason names)
    by_fault (Refused r) names (inr f) = record {
      path = f.path;
      counted = record {
        traceable = fault_traceable m (words_under demands m words) depth r f;
        within = omega (arith, f.few, under demands m words);
      };
      numbered = f.fault.numbered;
    }
    by_fault ManySegments names h = absurd names
    by_fault (Pointer what s w n) names (strict, (within, few, f)) =
        let limit = words_under demands m words in
        record {
          path = f.path;
          counted = record {
            traceable = lax_traceable m limit depth s w what n within f;
            within = omega (arith, number_within m limit depth n s w f.path within f.numbered, under demands m words);
          };
          numbered = f.numbered;
        }

-- that of a message that isn't accepted
judged_named : {K : Type 0} {F : List (List ℕ) → Report → Found → Type 0} (demands : Demands) (m : List (List ℕ))
    (words depth : ℕ) (g : Found) → NamesPointer g.answer
    → ((r : Report) → IsWithin m (words_under demands m words) depth → F m r g
    → IsNamed m words depth g.report.segment g.report.word g.report.pointers)
    → Judges demands K F m words depth g → IsNamed m words depth g.report.segment g.report.word g.report.pointers
judged_named demands m words depth g names p (refused v u e i) = fault_named demands m words depth v g names e u
judged_named demands m words depth g names p (accepted r h meets i) = p r meets.within i

-- and that of an overlap
marks_named : (size : ℕ) (demands : Demands) (m : List (List ℕ)) (words depth : ℕ) (g : Found) → NamesPointer g.answer
    → (r : Report) → IsWithin m (words_under demands m words) depth → FindsMarks size m r g
    → IsNamed m words depth g.report.segment g.report.word g.report.pointers
marks_named size demands m words depth g names r within (too_small few e) =
    absurd (subst (λ (z : Found). NamesPointer z.answer) e names)
marks_named size demands m words depth g names r within (exclusive enough j e) =
    absurd (subst (λ (z : Found). NamesPointer z.answer) e names)
marks_named size demands m words depth g names r within (overlap s w n enough f e) =
    let limit = words_under demands m words in
    subst (λ (z : Found). IsNamed m words depth z.report.segment z.report.word z.report.pointers) (sym e)
    (record {
      path = f.path;
      counted = record {
        traceable = overlap_traceable m limit depth s w n within f;
        within = omega (arith, number_within m limit depth n s w f.path within f.numbered, under demands m words);
      };
      numbered = f.numbered;
    })

-- and the first pointer that uses a word which another one uses
earlier_named : (n : ℕ) (m : List (List ℕ)) (words depth : ℕ) (g : Found) → answer.Good ≡ g.answer
    → FindsEarlierCall n m words depth g → IsNamed m words depth g.report.segment g.report.word g.report.pointers
earlier_named n m words depth g good (earlier_call.none missing e) = absurd (cc (good, ap (λ (z : Found). z.answer) e))
earlier_named n m words depth g good (earlier path s w i c h e) =
    let a = c.traceable.numbered in
    let b = h.numbered in
    let few = rises_fewer b.tour a.tour b.is_tour.rising a.is_tour.rising
    (λ q among.
    let r = b.is_tour.reached q among in
    a.is_tour.all q r.0 r.1 r.2 r.3 (inr (before q (b.is_tour.none_after q among)))) in
    subst (λ (z : Found). IsNamed m words depth z.report.segment z.report.word z.report.pointers) (sym e)
    (record {
      path = h.other;
      counted = record {
        traceable = earlier_traceable m depth n path s w i c.traceable h;
        within = omega (arith, few, a.count, b.count, c.within);
      };
      numbered = b;
    })
  where
    before : (q : List Step) → (q ≡ h.other) ⊎ Before q h.other → Before q path
    before q (inl same) = subst (λ u. Before u path) (sym same) h.first.holds.before
    before q (inr k) = Before-trans q h.other path k h.first.holds.before

-- The message that the input is or starts with has this named pointer.
data IsNamedIn (l : CallLimits) (bs : List ℕ) (s w n : ℕ) : Type 0 where
  in_frame : IsFalse (has_no_table l) → (m : List (List ℕ)) (x y : ℕ) → HasFrame l bs x y m
      → (not (allows_trailing l) ≡ true → ¬ HasTrailing l bs) → IsNamed m l.charge l.depth s w n → IsNamedIn l bs s w n
  in_words : IsTrue (has_no_table l) → IsSegment l bs → IsNamed (plain_words bs ∷ []) l.charge l.depth s w n
      → IsNamedIn l bs s w n

-- So it is of the report of an input, for answers that name a pointer.
of_found : (S : Answer → Type 0) (P : List (List ℕ) → ℕ → ℕ → Found → Type 0) (l : CallLimits) (f : Found) → S f.answer
    → ((m : List (List ℕ)) (g : Found) → S g.answer → P m l.charge l.depth g
    → IsNamed m l.charge l.depth g.report.segment g.report.word g.report.pointers)
    → (m : List (List ℕ)) (x : ℕ) (g : Found) → f ≡ framed_found l x m g → P m l.charge l.depth g
    → IsNamed m l.charge l.depth f.report.segment f.report.word f.report.pointers
of_found S P l f names p m x g e h =
    subst (λ (z : Found). IsNamed m l.charge l.depth z.report.segment z.report.word z.report.pointers) (sym e)
    (p m g (subst (λ (z : Found). S z.answer) e names) h)

named_in : {K : Type 0} {P : List (List ℕ) → ℕ → ℕ → Found → Type 0} (S : Answer → Type 0) (l : CallLimits) (bs : List ℕ)
    (f : Found) → ((c : NoFrame) → S (cause_answer c) → ⊥) → (S answer.Trailing → ⊥) → S f.answer
    → ((m : List (List ℕ)) (g : Found) → S g.answer → P m l.charge l.depth g
    → IsNamed m l.charge l.depth g.report.segment g.report.word g.report.pointers)
    → ReportsInput (not (allows_trailing l)) K P l bs f → IsNamedIn l bs f.report.segment f.report.word f.report.pointers
named_in S l bs f no_cause_names no_trailing_names names p (of_frame n (trailing m x y t h more e i)) =
    absurd (no_trailing_names (subst (λ (z : Found). S z.answer) e names))
named_in S l bs f no_cause_names no_trailing_names names p (of_frame n (reports only (without c h e i))) =
    absurd (no_cause_names c (subst (λ (z : Found). S z.answer) e names))
named_in {P = P} S l bs f no_cause_names no_trailing_names names p (of_frame n (reports only (framed m x y g h i e))) =
    in_frame n m x y h only (of_found S P l f names p m x g e i)
named_in S l bs f no_cause_names no_trailing_names names p (of_no_words y c h e i) =
    absurd (no_cause_names c (subst (λ (z : Found). S z.answer) e names))
named_in {P = P} S l bs f no_cause_names no_trailing_names names p (of_words y g h i e) =
    in_words y h (of_found S P l f names p (plain_words bs ∷ []) (length bs) g e i)

-- The path to it is found.
module _ (l : CallLimits) (bs : List ℕ) (n : ℕ) (c : PointerCall l bs n) (s w : ℕ) where
  found_path : (m : List (List ℕ)) (g : Found) → HasMessage l bs m → IsNamed m l.charge l.depth s w n
      → c.returned ≡ g.answer → c.required ≡ g.count → FindsPointer n c.before c.after m l.charge l.depth g
      → FindsPlace l bs n c s w
  found_path m g has k a r (written path t fits e i) =
      let same = one_numbered m n path k.path t.traceable.numbered k.numbered in
      record {
        m = m;
        has_message = has;
        path = path;
        numbered = subst (λ (u : List Step). IsNumbered m u s w n) (sym same) k.numbered;
        count = r ∙ ap (λ (z : Found). z.count) e;
        written = λ few. (a ∙ ap (λ (z : Found). z.answer) e, i);
        too_small = λ less. absurd (omega (arith, less, fits));
      }
  found_path m g has k a r (pointer.too_small path t less e i) =
      let same = one_numbered m n path k.path t.traceable.numbered k.numbered in
      record {
        m = m;
        has_message = has;
        path = path;
        numbered = subst (λ (u : List Step). IsNumbered m u s w n) (sym same) k.numbered;
        count = r ∙ ap (λ (z : Found). z.count) e;
        written = λ fits. absurd (omega (arith, less, fits));
        too_small = λ few. (a ∙ ap (λ (z : Found). z.answer) e, i);
      }
  found_path m g has k a r (pointer.none missing e i) = absurd (missing k.path k.counted)

  found_input : (f : Found) → c.returned ≡ f.answer → c.required ≡ f.count → IsNamedIn l bs s w n
      → ReportsInput (not (allows_trailing l)) (c.after ≡ c.before) (FindsPointer n c.before c.after) l bs f
      → FindsPlace l bs n c s w
  found_input f a r (in_frame off m x y h only k) (of_frame o (trailing v i j t u more e z)) =
      absurd (only t (v, i, j, u, more))
  found_input f a r (in_frame off m x y h only k) (of_frame o (reports also (without b u e z))) =
      absurd (no_cause l bs b x y m u h)
  found_input f a r (in_frame off m x y h only k) (of_frame o (reports also (framed v i j g u z e))) =
      found_path m g (inl (off, (x, y, h))) k (a ∙ ap (λ (z : Found). z.answer) e) (r ∙ ap (λ (z : Found). z.count) e)
      (subst (λ (z : List (List ℕ)). FindsPointer n c.before c.after z l.charge l.depth g)
      (one_extent l bs i x j y v m u h).2 z)
  found_input f a r (in_frame off m x y h only k) (of_no_words o b u e z) = one_input l off o
  found_input f a r (in_frame off m x y h only k) (of_words o g u z e) = one_input l off o
  found_input f a r (in_words on h k) (of_frame o t) = one_input l o on
  found_input f a r (in_words on h k) (of_no_words o b u e z) = absurd (no_word_cause l bs b u h)
  found_input f a r (in_words on h k) (of_words o g u z e) =
      found_path (plain_words bs ∷ []) g (inr (on, h, refl)) k (a ∙ ap (λ (z : Found). z.answer) e)
      (r ∙ ap (λ (z : Found). z.count) e) z

  found_place : IsNamedIn l bs s w n → FindsPlace l bs n c s w
  found_place k = let (f, t, h, r) = c.reports in found_input f h.0 r k t

-- no frame, and no bytes after one, name a pointer
no_cause_named : (c : NoFrame) → NamesPointer (cause_answer c) → ⊥
no_cause_named c h = search rules

no_cause_good : (c : NoFrame) → answer.Good ≡ cause_answer c → ⊥
no_cause_good c h = search rules

module _ (l : CallLimits) (bs : List ℕ) (f : Found) where
  vet_named : NamesPointer f.answer → ReportsInput (not (allows_trailing l)) ⊤ (Judges (demands_of l) ⊤ IsGood) l bs f
      → IsNamedIn l bs f.report.segment f.report.word f.report.pointers
  vet_named names t =
      named_in {K = ⊤} {P = Judges (demands_of l) ⊤ IsGood} NamesPointer l bs f no_cause_named (λ h. h) names
      (λ m g also h. judged_named {K = ⊤} {F = IsGood} (demands_of l) m l.charge l.depth g also
      (λ r within e. absurd (subst (λ (z : Found). NamesPointer z.answer) e also)) h) t

  exclusive_named : (size : ℕ) → NamesPointer f.answer
      → ReportsInput (not (allows_trailing l)) ⊤ (Marks size (demands_of l)) l bs f
      → IsNamedIn l bs f.report.segment f.report.word f.report.pointers
  exclusive_named size names t =
      named_in {K = ⊤} {P = Marks size (demands_of l)} NamesPointer l bs f no_cause_named (λ h. h) names
      (λ m g also h. judged_named {K = ⊤} {F = FindsMarks size} (demands_of l) m l.charge l.depth g also
      (marks_named size (demands_of l) m l.charge l.depth g also) h) t

  earlier_named_in : (n : ℕ) → answer.Good ≡ f.answer
      → ReportsInput (not (allows_trailing l)) ⊤ (FindsEarlierCall n) l bs f
      → IsNamedIn l bs f.report.segment f.report.word f.report.pointers
  earlier_named_in n good t =
      named_in {K = ⊤} {P = FindsEarlierCall n} (λ a. answer.Good ≡ a) l bs f no_cause_good (λ e. cc) good
      (λ m g also h. earlier_named n m l.charge l.depth g also h) t

-- The report says where the pointer is, and its number.
module _ (l : CallLimits) (bs : List ℕ) (f : Found) (r : CallReport) (e : r ≡ f.report)
    (k : IsNamedIn l bs f.report.segment f.report.word f.report.pointers) where
  place_found : (c : PointerCall l bs r.pointers) → FindsPlace l bs r.pointers c r.segment r.word
  place_found c =
      found_place l bs r.pointers c r.segment r.word
      (subst (λ (z : CallReport). IsNamedIn l bs z.segment z.word z.pointers) (sym e) k)

pub vet_found : (l : CallLimits) (bs : List ℕ) (a : Answer) (r : CallReport) → NamesPointer a → ReportsVet l bs a r
    → (c : PointerCall l bs r.pointers) → FindsPlace l bs r.pointers c r.segment r.word
vet_found l bs a r names (f, t, h) =
    place_found l bs f r h.1 (vet_named l bs f (subst NamesPointer h.0 names) t)

pub exclusive_found : (l : CallLimits) (bs : List ℕ) (size : ℕ) (a : Answer) (n : ℕ) (r : CallReport) → NamesPointer a
    → ReportsExclusive l bs size a n r
    → (c : PointerCall l bs r.pointers) → FindsPlace l bs r.pointers c r.segment r.word
exclusive_found l bs size a n r names (f, t, h, e) =
    place_found l bs f r h.1 (exclusive_named l bs f size (subst NamesPointer h.0 names) t)

pub earlier_found : (l : CallLimits) (bs : List ℕ) (n : ℕ) (r : CallReport) → ReportsEarlierCall l bs n answer.Good r
    → (c : PointerCall l bs r.pointers) → FindsPlace l bs r.pointers c r.segment r.word
earlier_found l bs n r (f, t, h) = place_found l bs f r h.1 (earlier_named_in l bs f n h.0 t)

-- Of a first difference the report names a pointer, if the reason is about one.
abbrev IsOfPointer : Found → Type 0
IsOfPointer f = (f.answer ≡ answer.NotCanonical) × (f.report.detail ≢ reason_number reason.Segments)
    × (f.report.detail ≢ reason_number reason.Trailing)

-- other answers are about none
cause_not_different : (c : NoFrame) → answer.NotCanonical ≡ cause_answer c → ⊥
cause_not_different c h = search rules

reason_not_different : (v : Reason) → answer.NotCanonical ≡ reason_answer v → ⊥
reason_not_different v h = search rules

refusal_not_different : (v : StrictRefusal) → answer.NotCanonical ≡ refusal_answer v → ⊥
refusal_not_different v h = search (rules, reason_not_different)

-- the number of the reason is that without a frame
own_detail : (a : Answer) (limit d n : ℕ) → a ≡ answer.NotCanonical → detail_of a limit d ≢ n → d ≢ n
own_detail a limit d n e h = subst (λ (u : Answer). detail_of u limit d ≢ n) e h

own_pointer : (l : CallLimits) (x : ℕ) (m : List (List ℕ)) (g : Found) → IsOfPointer (framed_found l x m g) → IsOfPointer g
own_pointer l x m g (a, some, other) = (
  a,
  own_detail g.answer (charge_limit l m) g.report.detail (reason_number reason.Segments) a some,
  own_detail g.answer (charge_limit l m) g.report.detail (reason_number reason.Trailing) a other,
)

different_named : (m : List (List ℕ)) (words depth limit : ℕ) (g : Found) → limit ≤ words → IsOfPointer g
    → (r : Report) → IsWithin m limit depth → IsDifferent m r g
    → IsNamed m words depth g.report.segment g.report.word g.report.pointers
different_named m words depth limit g low (a, some, other) r within (canonical h e) =
    absurd (let z = sym a ∙ ap (λ (z : Found). z.answer) e in cc)
different_named m words depth limit g low (a, some, other) r within (different h d (inl f) e) =
    absurd (some (ap (λ (z : Found). z.report.detail) e ∙ ap reason_number f.reason))
different_named m words depth limit g low (a, some, other) r within (different h d (inr (inr f)) e) =
    absurd (other (ap (λ (z : Found). z.report.detail) e ∙ ap reason_number f.reason))
different_named m words depth limit g low (a, some, other) r within (different h d (inr (inl f)) e) =
    subst (λ (z : Found). IsNamed m words depth z.report.segment z.report.word z.report.pointers) (sym e)
    (record {
      path = f.first.path;
      counted = record {
        traceable = accepted_traceable m limit depth d.segment d.word d.pointers f.first.path within f.first.numbered;
        within = omega (arith, number_within m limit depth d.pointers d.segment d.word f.first.path within f.first.numbered, low);
      };
      numbered = f.first.numbered;
    })

different_judged : (demands : Demands) (m : List (List ℕ)) (words depth : ℕ) (g : Found) → IsOfPointer g
    → Judges demands ⊤ IsDifferent m words depth g
    → IsNamed m words depth g.report.segment g.report.word g.report.pointers
different_judged demands m words depth g names (refused v u e i) =
    absurd (refusal_not_different v (sym names.0 ∙ ap (λ (z : Found). z.answer) e))
different_judged demands m words depth g names (accepted r h meets p) =
    different_named m words depth (words_under demands m words) g (under demands m words) names r meets.within p

module _ (l : CallLimits) (bs : List ℕ) (f : Found) (names : IsOfPointer f) where
  different_framed : (m : List (List ℕ)) (x : ℕ) (g : Found) → f ≡ framed_found l x m g
      → Judges (demands_of l) ⊤ IsDifferent m l.charge l.depth g
      → IsNamed m l.charge l.depth f.report.segment f.report.word f.report.pointers
  different_framed m x g e h =
      subst (λ (z : Found). IsNamed m l.charge l.depth z.report.segment z.report.word z.report.pointers) (sym e)
      (different_judged (demands_of l) m l.charge l.depth g (own_pointer l x m g (subst IsOfPointer e names)) h)

  different_named_in : ReportsInput true ⊤ (Judges (demands_of l) ⊤ IsDifferent) l bs f
      → IsNamedIn l bs f.report.segment f.report.word f.report.pointers
  different_named_in (of_frame n (trailing m x y t h more e i)) =
      absurd (let z = sym names.0 ∙ ap (λ (z : Found). z.answer) e in cc)
  different_named_in (of_frame n (reports only (without c h e i))) =
      absurd (cause_not_different c (sym names.0 ∙ ap (λ (z : Found). z.answer) e))
  different_named_in (of_frame n (reports only (framed m x y g h i e))) =
      in_frame n m x y h (λ _. only refl) (different_framed m x g e i)
  different_named_in (of_no_words y c h e i) =
      absurd (cause_not_different c (sym names.0 ∙ ap (λ (z : Found). z.answer) e))
  different_named_in (of_words y g h i e) = in_words y h (different_framed (plain_words bs ∷ []) (length bs) g e i)

pub difference_found_at : (l : CallLimits) (bs : List ℕ) (r : CallReport)
    → ReportsDifference l bs answer.NotCanonical r → r.detail ≢ reason_number reason.Segments
    → r.detail ≢ reason_number reason.Trailing
    → (c : PointerCall l bs r.pointers) → FindsPlace l bs r.pointers c r.segment r.word
difference_found_at l bs r (f, t, h) some other =
    place_found l bs f r h.1
    (different_named_in l bs f (
      sym h.0,
      subst (λ (z : CallReport). z.detail ≢ reason_number reason.Segments) h.1 some,
      subst (λ (z : CallReport). z.detail ≢ reason_number reason.Trailing) h.1 other,
    ) t)
