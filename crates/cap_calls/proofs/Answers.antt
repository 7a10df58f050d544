-- The bytes decide what each call finds.
use Rattle.cap_spec.specs.declared.StrictRefusal.TheVariants.{Refused}
use Rattle.cap_spec.proofs.Lemmas.{one_frame, strict_not_fault, within_not_refused}
use Rattle.cap_spec.proofs.ProofNames.{Bool, Err, List, None, Ok, Option, Result, [], ap, length, not, subst}
use Rattle.cap_spec.proofs.ProofNames.{sym, true, ℕ, ◌∙◌, ◌∷◌, ◌≡◌, ⊤, plain_words, IsStrictFault, rules}
use Rattle.cap_spec.proofs.Strict.Faults.{one_strict_fault}
use Rattle.cap_frame.specs.Framed.{ReportsFront}
use Rattle.cap_frame.specs.declared.fault.FrontFault.TheVariants.{TooLarge, TooManySegments, Truncated}
use Rattle.cap_frame.proofs.FrontAnswers.{empty_answer, large_answer, many_answer, short_answer, whole_answer}
use Rattle.cap_vet.specs.VetNames.{IsDemandFault, Meets, words_under, IsAccepted}
use Rattle.cap_walk.proofs.OneReport.{one_report}
use Rattle.cap_calls.specs.CallFindings.{Returns, accepted, without}
use Rattle.cap_calls.specs.Calls.{IsCheck, ReportsCheck, ReportsFrame}
use Rattle.cap_calls.specs.CallNames.{StrictRefusal, ManySegments, Pointer, FrontFault, Framed, Demands, Report, Judges}
use Rattle.cap_calls.specs.CallNames.{ReportsCall, ReportsWhole, framed, framed_found, none_found, refused, refused_found, reports}
use Rattle.cap_calls.specs.CallNames.{trailing, allows_trailing, demands_of, HasFrame, HasNoFrame, ReportsInput, of_frame}
use Rattle.cap_calls.specs.CallNames.{of_no_words, of_words, ReportsMessage, ReportsVet, Answer, Found, NoFrame, BadLimits}
use Rattle.cap_calls.specs.CallNames.{Fault, CallLimits, CallReport}
use Rattle.cap_calls.specs.declared.front.NoFrame.TheVariants.{NoMessage}
use Rattle.cap_calls.proofs.Words.{no_word_cause, one_input, one_word_cause}

-- an answer without a frame
abbrev pub Without : FrontFault → Result (Option Framed) FrontFault
Without e = Err e

-- bytes begin with no message in one way
one_fault : (limit : ℕ) (bs : List ℕ) (a b : FrontFault) → ReportsFront limit bs (Err a) → ReportsFront limit bs (Err b)
    → a ≡ b
one_fault limit bs a (TooManySegments n) h k = (let e = many_answer limit bs (Without a) n k h in cc)
one_fault limit bs a (TooLarge n) h k = (let e = large_answer limit bs (Without a) n k h in cc)
one_fault limit bs a (Truncated n) h k = (let e = short_answer limit bs (Without a) n k.0 k.1 h in cc)

-- no bytes begin with no message in no other way
no_fault : (limit : ℕ) (bs : List ℕ) (a : FrontFault) → bs ≡ [] → ReportsFront limit bs (Err a) → ⊥
no_fault limit bs a e h = (let f = empty_answer limit bs (Without a) e h in cc)

module _ (l : CallLimits) (bs : List ℕ) where
  -- there is no frame for one cause
  pub one_cause : (a b : NoFrame) → HasNoFrame l bs a → HasNoFrame l bs b → a ≡ b
  one_cause a b h x4 = search (rules, no_fault, one_fault)

  -- where there is a frame, there is no cause for none
  pub no_cause : (a : NoFrame) (frame segments : ℕ) (m : List (List ℕ)) → HasNoFrame l bs a
      → HasFrame l bs frame segments m → ⊥
  no_cause BadLimits frame segments m h f = h f.are_limits
  no_cause NoMessage frame segments m h f = whole_answer l.message_words bs (Ok None) m frame f.front h.1
  no_cause (Fault a) frame segments m h f = whole_answer l.message_words bs (Without a) m frame f.front h.1

  -- there is one frame
  pub one_extent : (a b x y : ℕ) (m n : List (List ℕ)) → HasFrame l bs a x m → HasFrame l bs b y n → (a ≡ b) × (x ≡ y)
      × (m ≡ n)
  one_extent a b x y m n f g =
      let same = one_frame f.front.own g.front.own f.front.rest g.front.rest m n f.front.frames g.front.frames
      (sym f.front.words ∙ g.front.words) in search rules

-- What is found in one way is found in a weaker one.
pub reports_less : {K L : Type 0} {P Q : List (List ℕ) → ℕ → ℕ → Found → Type 0} {whole : Bool} {l : CallLimits}
    {bs : List ℕ} {f : Found}
    → (K → L) → ((m : List (List ℕ)) (w d : ℕ) (g : Found) → P m w d g → Q m w d g) → ReportsWhole whole K P l bs f
    → ReportsWhole whole L Q l bs f
reports_less k p (trailing m x y t h more e i) = trailing m x y t h more e (k i)
reports_less k p (reports none (without c h e x)) = reports none (without c h e (k x))
reports_less {l = l} k p (reports none (framed m x y g h i e)) = reports none
    (framed m x y g h (p m l.charge l.depth g i) e)

pub input_less : {K L : Type 0} {P Q : List (List ℕ) → ℕ → ℕ → Found → Type 0} {whole : Bool} {l : CallLimits}
    {bs : List ℕ} {f : Found}
    → (K → L) → ((m : List (List ℕ)) (w d : ℕ) (g : Found) → P m w d g → Q m w d g) → ReportsInput whole K P l bs f
    → ReportsInput whole L Q l bs f
input_less k p (of_frame n t) = of_frame n (reports_less k p t)
input_less k p (of_no_words y c h e x) = of_no_words y c h e (k x)
input_less {l = l} {bs = bs} k p (of_words y g h i e) = of_words y g h (p (plain_words bs ∷ []) l.charge l.depth g i) e

-- What the flag allows is what the call asked for.
pub by_flag : {K : Type 0} {P : List (List ℕ) → ℕ → ℕ → Found → Type 0} (l : CallLimits) (bs : List ℕ) (f : Found)
    (w : Bool)
    → w ≡ allows_trailing l → ReportsInput (not w) K P l bs f → ReportsInput (not (allows_trailing l)) K P l bs f
by_flag {K} {P} l bs f w e t = subst (λ (z : Bool). ReportsInput (not z) K P l bs f) e t

pub message_by_flag : {K : Type 0} {P : List (List ℕ) → ℕ → ℕ → Found → Type 0} (l : CallLimits) (bs : List ℕ)
    (f : Found) (w : Bool) → w ≡ allows_trailing l → ReportsWhole (not w) K P l bs f → ReportsMessage K P l bs f
message_by_flag {K} {P} l bs f w e t = subst (λ (z : Bool). ReportsWhole (not z) K P l bs f) e t

-- There is one thing to be found, if there is one of each message.
pub one_reported : {K L S : Type 0} {P Q : List (List ℕ) → ℕ → ℕ → Found → Type 0} (l : CallLimits) (bs : List ℕ)
    (f g : Found) → (K → L → S)
    → ((m : List (List ℕ)) (h k : Found) → P m l.charge l.depth h → Q m l.charge l.depth k → (h ≡ k) × S)
    → ReportsCall K P l bs f → ReportsCall L Q l bs g → (f ≡ g) × S
one_reported l bs f g both same (without c h e x) (without d k i y) =
    (e ∙ (ap none_found (one_cause l bs c d h k) ∙ sym i), both x y)
one_reported l bs f g both same (without c h e x) (framed m a b v k q i) = absurd (no_cause l bs c a b m h k)
one_reported l bs f g both same (framed m a b u h p e) (without c k i y) = absurd (no_cause l bs c a b m k h)
one_reported {Q = Q} l bs f g both same (framed m a b u h p e) (framed n x y v k q i) =
    search (rules, one_extent l bs a x b y m n h k)

-- So is there where bytes after the message are an answer of their own.
pub one_whole_reported : {K L S : Type 0} {P Q : List (List ℕ) → ℕ → ℕ → Found → Type 0} (whole : Bool) (l : CallLimits)
    (bs : List ℕ) (f g : Found)
    → (K → L → S) → ((m : List (List ℕ)) (h k : Found) → P m l.charge l.depth h → Q m l.charge l.depth k → (h ≡ k) × S)
    → ReportsWhole whole K P l bs f → ReportsWhole whole L Q l bs g → (f ≡ g) × S
one_whole_reported whole l bs f g both same (reports none t) (reports also u) = one_reported l bs f g both same t u
one_whole_reported whole l bs f g both same (trailing m a b t h more e x) (reports none u) = absurd
    (none t (m, a, b, h, more))
one_whole_reported whole l bs f g both same (reports none u) (trailing m a b t h more e x) = absurd
    (none t (m, a, b, h, more))
one_whole_reported whole l bs f g both same (trailing m a b t h more e x) (trailing n c d u k less i y) =
    search (rules, one_extent l bs a c b d m n h k)

-- So there is of a call's input.
pub one_input_reported : {K L S : Type 0} {P Q : List (List ℕ) → ℕ → ℕ → Found → Type 0} (whole : Bool) (l : CallLimits)
    (bs : List ℕ) (f g : Found)
    → (K → L → S) → ((m : List (List ℕ)) (h k : Found) → P m l.charge l.depth h → Q m l.charge l.depth k → (h ≡ k) × S)
    → ReportsInput whole K P l bs f → ReportsInput whole L Q l bs g → (f ≡ g) × S
one_input_reported whole l bs f g both same (of_frame n t) (of_frame o u) = one_whole_reported whole l bs f g both same t u
one_input_reported whole l bs f g both same (of_frame n t) (of_no_words y d k i j) = one_input l n y
one_input_reported whole l bs f g both same (of_frame n t) (of_words y v k q i) = one_input l n y
one_input_reported whole l bs f g both same (of_no_words y c h e x) (of_frame n t) = one_input l n y
one_input_reported whole l bs f g both same (of_words y u h p e) (of_frame n t) = one_input l n y
one_input_reported whole l bs f g both same (of_no_words y c h e x) (of_no_words z d k i j) =
    (e ∙ (ap none_found (one_word_cause l bs c d h k) ∙ sym i), both x j)
one_input_reported whole l bs f g both same (of_no_words y c h e x) (of_words z v k q i) = absurd (no_word_cause l bs c h k)
one_input_reported whole l bs f g both same (of_words y u h p e) (of_no_words z d k i j) = absurd (no_word_cause l bs d k h)
one_input_reported whole l bs f g both same (of_words y u h p e) (of_words z v k q i) =
    let s = same (plain_words bs ∷ []) u v p q in (e ∙ (ap (framed_found l (length bs) (plain_words bs ∷ [])) s.0 ∙ sym i), s.1)

-- A message has one fault under demands.
as_strict_fault : (demands : Demands) (m : List (List ℕ)) (w d : ℕ) (r : StrictRefusal) → IsDemandFault demands m w d r
    → IsStrictFault m (words_under demands m w) d r
as_strict_fault demands m w d (Refused r) h = h
as_strict_fault demands m w d ManySegments h = h.1
as_strict_fault demands m w d (Pointer what s v n) h = h.1

pub one_demand_fault : (demands : Demands) (m : List (List ℕ)) (w d : ℕ) (r q : StrictRefusal)
    → IsDemandFault demands m w d r
    → IsDemandFault demands m w d q → r ≡ q
one_demand_fault demands m w d r q h k = search (rules, one_strict_fault, as_strict_fault)

-- No message meets the demands and has a fault.
pub meets_no_fault : (demands : Demands) (m : List (List ℕ)) (w d : ℕ) (r : StrictRefusal) → Meets demands m w d
    → IsDemandFault demands m w d r → ⊥
meets_no_fault demands m w d (Refused r) h k = within_not_refused m (words_under demands m w) d r h.within k
meets_no_fault demands m w d ManySegments h k = strict_not_fault m (words_under demands m w) d ManySegments
    (h.strict k.0) k.1
meets_no_fault demands m w d (Pointer what s v n) h k =
    strict_not_fault m (words_under demands m w) d (Pointer what s v n) (h.strict k.0) k.1

-- So there is one thing to be found of a message, if there is of an accepted one.
pub one_judged : {K L S : Type 0} {P Q : List (List ℕ) → Report → Found → Type 0} (demands : Demands)
    (m : List (List ℕ)) (w d : ℕ) (f g : Found)
    → (K → L → S) → ((r : Report) → IsAccepted m (words_under demands m w) d r → P m r f → Q m r g → (f ≡ g) × S)
    → Judges demands K P m w d f → Judges demands L Q m w d g → (f ≡ g) × S
one_judged demands m w d f g both same (refused r h e x) (refused q k i y) =
    (e ∙ (ap refused_found (one_demand_fault demands m w d r q h k) ∙ sym i), both x y)
one_judged demands m w d f g both same (refused r h e x) (accepted q k n i) = absurd
    (meets_no_fault demands m w d r n h)
one_judged demands m w d f g both same (accepted r h n p) (refused q k i y) = absurd
    (meets_no_fault demands m w d q n k)
one_judged {Q = Q} demands m w d f g both same (accepted r h n p) (accepted q k o i) =
    same r h p (subst (λ (z : Report). Q m z g) (sym (one_report m (words_under demands m w) d r q h k)) i)

-- And so it is returned and reported.
pub one_returned : (f g : Found) (a b : Answer) (r q : CallReport) → f ≡ g → Returns f a r → Returns g b q → (a ≡ b)
    × (r ≡ q)
one_returned f g a b r q e (h, i) (j, k) =
    (h ∙ (ap (λ (x : Found). x.answer) e ∙ sym j), i ∙ (ap (λ (x : Found). x.report) e ∙ sym k))

pub one_frame_reported : (l : CallLimits) (bs : List ℕ) (a b : Answer) (r q : CallReport) → ReportsFrame l bs a r
    → ReportsFrame l bs b q → (a ≡ b) × (r ≡ q)
one_frame_reported l bs a b r q (f, t, h) (g, u, k) =
    one_returned f g a b r q (one_reported {S = ⊤} l bs f g (λ _ _. tt) (λ m x y p s. (p ∙ sym s, tt)) t u).0 h k

-- What is found of an accepted message is found of the bytes.
pub one_message_reported : {P : List (List ℕ) → Report → Found → Type 0} (whole : Bool) (l : CallLimits) (bs : List ℕ)
    (a b : Answer) (r q : CallReport)
    → ((m : List (List ℕ)) (z : Report) (x y : Found) → P m z x → P m z y → x ≡ y)
    → (f : Found) × ReportsInput whole ⊤ (Judges (demands_of l) ⊤ P) l bs f × Returns f a r
    → (g : Found) × ReportsInput whole ⊤ (Judges (demands_of l) ⊤ P) l bs g × Returns g b q → (a ≡ b) × (r ≡ q)
one_message_reported whole l bs a b r q one (f, t, h) (g, u, k) =
    one_returned f g a b r q
    (one_input_reported {S = ⊤} whole l bs f g (λ _ _. tt)
    (λ m x y p s. one_judged {S = ⊤} (demands_of l) m l.charge l.depth x y (λ _ _. tt)
    (λ z _ e i. (one m z x y e i, tt)) p s) t u).0 h k

pub one_vet_reported : (l : CallLimits) (bs : List ℕ) (a b : Answer) (r q : CallReport) → ReportsVet l bs a r
    → ReportsVet l bs b q → (a ≡ b) × (r ≡ q)
one_vet_reported l bs a b r q t u = one_message_reported (not (allows_trailing l)) l bs a b r q (λ m z x y e i. e ∙ sym i) t u

one_check : (m : List (List ℕ)) (r : Report) (f g : Found) → IsCheck m r f → IsCheck m r g → f ≡ g
one_check m r f g h k = search rules

pub one_check_reported : (l : CallLimits) (bs : List ℕ) (a b : Answer) (r q : CallReport) → ReportsCheck l bs a r
    → ReportsCheck l bs b q → (a ≡ b) × (r ≡ q)
one_check_reported l bs a b r q t u = one_message_reported true l bs a b r q one_check t u
