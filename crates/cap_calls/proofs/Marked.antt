-- The bytes and the capacity decide what the call that vets exclusively finds.
use Rattle.cap_spec.proofs.Lemmas.{none_of_disjoint, one_overlap, length_joined}
use Rattle.cap_spec.proofs.ProofNames.{Bool, List, ap, arith, drop, inr, length-append, not, sym, ℕ, ◌+◌}
use Rattle.cap_spec.proofs.ProofNames.{◌/◌, ◌∙◌, ◌≡◌, ◌≤◌, ⊤, rules}
use Rattle.cap_vet.specs.Exclusives.{KeepsUnused}
use Rattle.cap_vet.specs.VetNames.{IsExclusiveFault, IsVetted, marks_of}
use Rattle.cap_vet.specs.declared.exclusiveness.exclusive_buffer.ExclusiveFault.{ExclusiveFault}
use Rattle.cap_vet.specs.declared.exclusiveness.exclusive_buffer.ExclusiveFault.TheVariants.{BufferTooSmall, Overlap, Refused}
use Rattle.cap_walk.proofs.OneReport.{not_both, one_report}
use Rattle.cap_calls.specs.CallFindings.{without}
use Rattle.cap_calls.specs.ExclusiveCalls.{FindsMarks, KeepsMarks, MarksIn, ReportsExclusive, too_small}
use Rattle.cap_calls.specs.CallNames.{Demands, Report, ReportsWhole, framed, reports, trailing}
use Rattle.cap_calls.specs.CallNames.{allows_trailing, demands_of, HasFrame, ReportsInput, of_frame, of_no_words, of_words}
use Rattle.cap_calls.specs.CallNames.{Marks, exclusive, fault_found, overlap, Answer, Found, CallLimits, CallReport}
use Rattle.cap_calls.proofs.Answers.{one_input_reported, one_judged, one_returned}
use Rattle.cap_calls.proofs.Words.{few_words}

-- of an accepted message
one_marked : (size : ℕ) (m : List (List ℕ)) (r : Report) (f g : Found) → FindsMarks size m r f → FindsMarks size m r g
    → f ≡ g
one_marked size m r f g (too_small few e) (too_small less i) = e ∙ sym i
one_marked size m r f g (too_small few e) (overlap s w n enough h i) = absurd (omega (arith, few, enough))
one_marked size m r f g (too_small few e) (exclusive enough j i) = absurd (omega (arith, few, enough))
one_marked size m r f g (overlap s w n enough h e) (too_small few i) = absurd (omega (arith, few, enough))
one_marked size m r f g (overlap s w n enough h e) (overlap t v k also j i) = search (rules, one_overlap m s w n t v k h j)
one_marked size m r f g (overlap s w n enough h e) (exclusive also j i) = search (rules, none_of_disjoint m j h.path h.first.holds)
one_marked size m r f g (exclusive enough j e) (too_small few i) = absurd (omega (arith, few, enough))
one_marked size m r f g (exclusive enough j e) (overlap s w n also h i) = search (rules, none_of_disjoint m j h.path h.first.holds)
one_marked size m r f g (exclusive enough j e) (exclusive also k i) = e ∙ sym i

-- The call answers and reports one thing.
pub one_exclusive_reported : (l : CallLimits) (bs : List ℕ) (size : ℕ) (a b : Answer) (n k : ℕ) (r q : CallReport)
    → ReportsExclusive l bs size a n r → ReportsExclusive l bs size b k q → (a ≡ b) × (n ≡ k) × (r ≡ q)
one_exclusive_reported l bs size a b n k r q (f, t, h, e) (g, u, i, j) =
    let same = (one_input_reported {S = ⊤} (not (allows_trailing l)) l bs f g (λ _ _. tt)
    (λ m x y p s. one_judged {S = ⊤} (demands_of l) m l.charge l.depth x y (λ _ _. tt)
    (λ z _ c d. (one_marked size m z x y c d, tt)) p s) t u).0 in
    let one = one_returned f g a b r q same h i in
    (one.0, e ∙ (ap (λ (x : Found). x.count) same ∙ sym j), one.1)

-- the marks of a message take few numbers beside the bytes of its frame
few_marks : (l : CallLimits) (bs : List ℕ) (frame segments : ℕ) (m : List (List ℕ)) → HasFrame l bs frame segments m
    → marks_of m ≤ frame / 512 + 1
few_marks l bs frame segments m h = search (rules, length-append, length_joined)

marked_count : (size : ℕ) (demands : Demands) (m : List (List ℕ)) (w d : ℕ) (f : Found) → Marks size demands m w d f
    → f.count ≤ marks_of m
marked_count size demands m w d f h = search rules

few_required : (whole : Bool) (l : CallLimits) (bs : List ℕ) (size : ℕ) (demands : Demands) (f : Found)
    → ReportsWhole whole ⊤ (Marks size demands) l bs f → f.count ≤ f.report.length / 512 + 1
few_required whole l bs size demands f (trailing m x y t h more e k) = search rules
few_required whole l bs size demands f (reports none (without c h e k)) = search rules
few_required whole l bs size demands f (reports none (framed m x y g h p e)) =
    search (rules, few_marks l bs x y m h, marked_count size demands m l.charge l.depth g p)

pub few_input : (whole : Bool) (l : CallLimits) (bs : List ℕ) (size : ℕ) (demands : Demands) (f : Found)
    → ReportsInput whole ⊤ (Marks size demands) l bs f → f.count ≤ f.report.length / 512 + 1
few_input whole l bs size demands f (of_frame n t) = few_required whole l bs size demands f t
few_input whole l bs size demands f (of_no_words y c h e k) = search rules
few_input whole l bs size demands f (of_words y g h p e) = search (rules, marked_count, few_words)

-- What was found of the marks holds of all the bytes.
marks_kept : (whole : Bool) (demands : Demands) (l : CallLimits) (bs old new : List ℕ) (f : Found)
    → ReportsWhole whole (new ≡ old) (MarksIn old new demands) l bs f → KeepsMarks old new f
marks_kept whole demands l bs old new f h = search rules

pub input_kept : (whole : Bool) (demands : Demands) (l : CallLimits) (bs old new : List ℕ) (f : Found)
    → ReportsInput whole (new ≡ old) (MarksIn old new demands) l bs f → KeepsMarks old new f
input_kept whole demands l bs old new f h = search (rules, marks_kept)

-- A fault of an accepted message is what the call finds of it.
pub marked_fault : (size : ℕ) (m : List (List ℕ)) (r : Report) (fault : ExclusiveFault) (f : Found) → IsVetted m r
    → IsExclusiveFault m 268435456 256 size fault → f ≡ fault_found (marks_of m) fault → FindsMarks size m r f
marked_fault size m r (Refused q) f v h e = absurd (not_both m 268435456 256 r q v h)
marked_fault size m r (BufferTooSmall n q) f v h e = search (rules, one_report m 268435456 256 q r h.0 v)
marked_fault size m r (Overlap s w n) f v h e = overlap s w n h.2 h.3 e

-- and of a fault, of which nothing beside the first numbers is changed
pub fault_kept : (old new : List ℕ) (m : List (List ℕ)) (fault : ExclusiveFault) (f : Found)
    → f ≡ fault_found (marks_of m) fault → KeepsUnused fault old new
    → drop (marks_of m) new ≡ drop (marks_of m) old → KeepsMarks old new f
fault_kept old new m fault f e h k = search rules

-- Nothing is changed of a message that isn't accepted.
pub refused_kept : (old new : List ℕ) (f : Found) → new ≡ old → KeepsMarks old new f
refused_kept old new f k = record { rest = ap (drop f.count) k; kept = inr (inr k) }
