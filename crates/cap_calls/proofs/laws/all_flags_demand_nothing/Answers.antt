-- Each direction of each call.
use Rattle.std.proofs.Common.{subst, sym, true}
use Rattle.cap_spec.proofs.ProofNames.{false≢true, Bool, List, ap, arith, false, inl, inr, not, refl, ℕ, ◌∙◌, ◌≡◌}
use Rattle.cap_spec.proofs.ProofNames.{IsRefused, IsRefusedOnPath, rules}
use Rattle.cap_spec.specs.declared.StrictRefusal.{StrictRefusal}
use Rattle.cap_walk.specs.Demands.{IsDemandFault, no_demands}
use Rattle.cap_vet.specs.PathDemands.{IsPathFault}
use Rattle.cap_calls.specs.CallInputs.{of_frame}
use Rattle.cap_spec.specs.declared.Refusal.{Refusal}
use Rattle.cap_vet.specs.VetNames.{Meets, IsAccepted, marks_of}
use Rattle.cap_calls.specs.CallFindings.{JudgesAny, accepted, without}
use Rattle.cap_calls.specs.ExclusiveCalls.{MarksAny, too_small}
use Rattle.cap_calls.specs.CallNames.{Step, Demands, Report, Judges, ReportsCall, ReportsWhole, framed, refused}
use Rattle.cap_calls.specs.CallNames.{refused_found, reports, trailing, allows_trailing, demands_of, has_no_table}
use Rattle.cap_calls.specs.CallNames.{ReportsInput, of_no_words, of_words, Marks, exclusive, overlap, Found, CallLimits}
use Rattle.cap_calls.proofs.Words.{one_input}
use Rattle.cap_spec.specs.declared.StrictRefusal.TheVariants as strict
use Rattle.cap_vet.specs.declared.exclusiveness.exclusive_buffer.ExclusiveFault.TheVariants as fault
use Rattle.cap_calls.proofs.laws.all_flags_demand_nothing.Goals as goal

-- With both flags nothing but acceptance is demanded.
-- what the flags come to
demands_none : (l : CallLimits) → l.flags ≡ 3 → demands_of l ≡ no_demands
demands_none l e = rw e refl

table_given : (l : CallLimits) → l.form ≡ 1 → has_no_table l ≡ false
table_given l e = rw e refl

-- then the input is a frame
framed_input : {K : Type 0} {P : List (List ℕ) → ℕ → ℕ → Found → Type 0} (whole : Bool) (l : CallLimits)
    (bs : List ℕ) (f : Found) → has_no_table l ≡ false → ReportsInput whole K P l bs f → ReportsWhole whole K P l bs f
framed_input whole l bs f off (of_frame n t) = t
framed_input whole l bs f off (of_no_words y c h e k) = one_input l off y
framed_input whole l bs f off (of_words y g h p e) = one_input l off y

trailing_allowed : (l : CallLimits) → l.form ≡ 1 → not (allows_trailing l) ≡ false
trailing_allowed l e = rw e refl

-- Without a demand a message has only the faults for which it is refused.
fault_refused : (m : List (List ℕ)) (w d : ℕ) (r : StrictRefusal) → IsDemandFault no_demands m w d r
    → (refusal : Refusal) × IsRefused m w d refusal × (r ≡ strict.Refused refusal)
fault_refused m w d r h = search (rules, false≢true)

-- And it meets no demand if it is accepted.
meets_none : (m : List (List ℕ)) (w d : ℕ) (r : Report) → IsAccepted m w d r → Meets no_demands m w d
meets_none m w d r (t, h) =
    record { within = (t, r.charge, r.depth, h.within); strict = λ e. absurd (false≢true e) }

-- Nor does a path have others.
path_refused : (m : List (List ℕ)) (w d : ℕ) (path : List Step) (r : StrictRefusal)
    → IsPathFault no_demands m w d path r
    → (refusal : Refusal) × IsRefusedOnPath m w d path refusal × (r ≡ strict.Refused refusal)
path_refused m w d path (strict.Refused r) h = (r, h, refl)
path_refused m w d path strict.ManySegments h = absurd (false≢true h.0)
path_refused m w d path (strict.Pointer what s v n) h = absurd (false≢true h.0)

module _ {K : Type 0} {P : List (List ℕ) → Report → Found → Type 0} (m : List (List ℕ)) (w d : ℕ) (f : Found) where
  judges_less : Judges no_demands K P m w d f → JudgesAny K P m w d f
  judges_less x1 = search (rules, fault_refused)

  judges_more : JudgesAny K P m w d f → Judges no_demands K P m w d f
  judges_more (inl (r, h, e, k)) = refused (strict.Refused r) h e k
  judges_more (inr (r, h, p)) = accepted r h (meets_none m w d r h) p

-- So it is under all flags.
module _ {K : Type 0} {P : List (List ℕ) → Report → Found → Type 0} (l : CallLimits) (all : l.flags ≡ 3)
    (m : List (List ℕ)) (f : Found) where
  pub all_less : Judges (demands_of l) K P m l.charge l.depth f → JudgesAny K P m l.charge l.depth f
  all_less h = search (rules, judges_less, demands_none)

  pub all_more : JudgesAny K P m l.charge l.depth f → Judges (demands_of l) K P m l.charge l.depth f
  all_more h = search (rules, demands_none, judges_more)

-- So it is for the marks of a message.
marks_less : (size : ℕ) (m : List (List ℕ)) (w d : ℕ) (f : Found) → Marks size no_demands m w d f → MarksAny size m w d f
marks_less size m w d f (refused r h e k) =
    (let q = fault_refused m w d r h in inl (fault.Refused q.0, q.1, e ∙ ap refused_found q.2))
marks_less size m w d f (accepted r h n (too_small few e)) = inl (fault.BufferTooSmall (marks_of m) r, (h, few, refl), e)
marks_less size m w d f (accepted r h n (overlap s v k enough first e)) = inl
    (fault.Overlap s v k, (r, h, enough, first), e)
marks_less size m w d f (accepted r h n (exclusive enough j e)) = inr (r, h, j, enough, e)

marks_more : (size : ℕ) (m : List (List ℕ)) (w d : ℕ) (f : Found) → MarksAny size m w d f → Marks size no_demands m w d f
marks_more size m w d f (inl (fault.Refused r, h, e)) = refused (strict.Refused r) h e tt
marks_more size m w d f (inl (fault.BufferTooSmall n r, h, e)) = accepted r h.0 (meets_none m w d r h.0)
    (too_small (omega (arith, h.1, h.2)) e)
marks_more size m w d f (inl (fault.Overlap s v k, h, e)) = accepted h.0 h.1 (meets_none m w d h.0 h.1)
    (overlap s v k h.2 h.3 e)
marks_more size m w d f (inr (r, h, j, enough, e)) = accepted r h (meets_none m w d r h) (exclusive enough j e)

all_marks_less : (l : CallLimits) → l.flags ≡ 3 → (size : ℕ) (m : List (List ℕ)) (f : Found)
    → Marks size (demands_of l) m l.charge l.depth f
    → MarksAny size m l.charge l.depth f
all_marks_less l all size m f h = search (rules, marks_less size m l.charge l.depth f (subst (λ (d : Demands). Marks size d m l.charge l.depth f) (demands_none l all) h), demands_none l all)

all_marks_more : (l : CallLimits) → l.flags ≡ 3 → (size : ℕ) (m : List (List ℕ)) (f : Found)
    → MarksAny size m l.charge l.depth f
    → Marks size (demands_of l) m l.charge l.depth f
all_marks_more l all size m f h = search (rules, demands_none, marks_more)

-- Bytes after the message change nothing if they may follow.
module _ {K : Type 0} {P Q : List (List ℕ) → ℕ → ℕ → Found → Type 0} (l : CallLimits) (bs : List ℕ) (f : Found) where
  reports_as : ((m : List (List ℕ)) (g : Found) → P m l.charge l.depth g → Q m l.charge l.depth g) → ReportsCall K P l bs f
      → ReportsCall K Q l bs f
  reports_as p (without c h e k) = without c h e k
  reports_as p (framed m x y g h i e) = framed m x y g h (p m g i) e

  pub whole_as : (whole : Bool) → ((m : List (List ℕ)) (g : Found) → P m l.charge l.depth g → Q m l.charge l.depth g)
      → ReportsWhole whole K P l bs f → ReportsWhole whole K Q l bs f
  whole_as whole p (trailing m x y t h more e k) = trailing m x y t h more e k
  whole_as whole p (reports only t) = reports only (reports_as p t)

  pub whole_less : (whole : Bool) → whole ≡ false
      → ((m : List (List ℕ)) (g : Found) → P m l.charge l.depth g → Q m l.charge l.depth g)
      → ReportsWhole whole K P l bs f → ReportsCall K Q l bs f
  whole_less whole may p (trailing m x y t h more e k) = absurd (false≢true (sym may ∙ t))
  whole_less whole may p (reports only t) = reports_as p t

  pub whole_more : (whole : Bool) → whole ≡ false
      → ((m : List (List ℕ)) (g : Found) → P m l.charge l.depth g → Q m l.charge l.depth g)
      → ReportsCall K P l bs f → ReportsWhole whole K Q l bs f
  whole_more whole may p t = reports (λ only. absurd (false≢true (sym may ∙ only))) (reports_as p t)

pub returns : goal.returns
returns c = record {
  vet = λ l bs a r e i.
      let off = table_given l i in (
        λ (f, t, h). (f, whole_less l bs f _ (trailing_allowed l i) (λ m g j. all_less l e m g j) (framed_input _ l bs f off t), h),
        λ (f, t, h). (f, of_frame off (whole_more l bs f _ (trailing_allowed l i) (λ m g j. all_more l e m g j) t), h),
      );
  exclusive = λ l bs size a n r e i.
      let off = table_given l i in (
        λ (f, t, h, k). (
          f,
          whole_less l bs f _ (trailing_allowed l i) (λ m g j. all_marks_less l e size m g j) (framed_input _ l bs f off t),
          h,
          k,
        ),
        λ (f, t, h, k). (f, of_frame off (whole_more l bs f _ (trailing_allowed l i) (λ m g j. all_marks_more l e size m g j) t), h, k),
      );
  canonical = λ l bs old a n new r e i.
      let off = table_given l i in (
        λ (f, t, h, k). (f, whole_less l bs f _ (trailing_allowed l i) (λ m g j. all_less l e m g j) (framed_input _ l bs f off t), h, k),
        λ (f, t, h, k). (f, of_frame off (whole_more l bs f _ (trailing_allowed l i) (λ m g j. all_more l e m g j) t), h, k),
      );
  check_canonical = λ l bs a r e i.
      let off = table_given l i in (
        λ (f, t, h). (f, whole_as l bs f true (λ m g j. all_less l e m g j) (framed_input true l bs f off t), h),
        λ (f, t, h). (f, of_frame off (whole_as l bs f true (λ m g j. all_more l e m g j) t), h),
      );
  first_difference = λ l bs a r e i.
      let off = table_given l i in (
        λ (f, t, h). (f, whole_as l bs f true (λ m g j. all_less l e m g j) (framed_input true l bs f off t), h),
        λ (f, t, h). (f, of_frame off (whole_as l bs f true (λ m g j. all_more l e m g j) t), h),
      );
  demands = demands_none;
  message = λ m w d. ((λ h. h.within), (λ h. record { within = h; strict = λ e. absurd (false≢true e) }));
  message_refusal = λ m w d fault. (
    fault_refused m w d fault,
    (λ (refusal, h, e). subst (λ (z : StrictRefusal). IsDemandFault no_demands m w d z) (sym e) h),
  );
  path = λ m w d path.
      ((λ h. h.within), (λ h. record { within = h; strict = λ e. absurd (false≢true e) }));
  path_refusal = λ m w d path fault. (
    path_refused m w d path fault,
    (λ (refusal, h, e). subst (λ (z : StrictRefusal). IsPathFault no_demands m w d path z) (sym e) h),
  );
}
