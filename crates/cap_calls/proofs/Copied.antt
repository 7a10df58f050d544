-- The bytes and the buffer decide what the call for a canonical copy finds and writes.
use Rattle.cap_spec.proofs.Lemmas.{length_plain, one_copy, length_joined}
use Rattle.cap_spec.proofs.ProofNames.{Bool, List, None, Option, Result, Some, [], ap, ap₂, arith, false}
use Rattle.cap_spec.proofs.ProofNames.{length, length-append, not, subst, sum, sym, true, unwrap_or, ℕ, ◌*◌, ◌+◌, ◌∙◌, ◌∷◌}
use Rattle.cap_spec.proofs.ProofNames.{◌≡◌, ◌≤◌, sizes_of, IsFirstCap, plain_text, plain_words}
use Rattle.cap_spec.proofs.ProofNames.{rules}
use Rattle.cap_spec.proofs.Strict.Unamplified.{within_both}
use Rattle.cap_walk.specs.Reports.{IsFirstCapOf}
use Rattle.cap_canon.specs.CopyBuffers.{ReportsBuffer}
use Rattle.cap_canon.specs.declared.fault.BufferFault.{BufferFault}
use Rattle.cap_canon.proofs.Copies.{cap_no_copy, copy_charged}
use Rattle.cap_calls.specs.CallFindings.{accepted, without}
use Rattle.cap_calls.specs.CanonicalCalls.{Copies, FindsCopy, ReportsCopy, copied, has_capability}
use Rattle.cap_calls.specs.PackCalls.{too_small, written}
use Rattle.cap_calls.specs.CallNames.{Demands, Report, ReportsWhole, accepted_found, framed, refused, reports, trailing}
use Rattle.cap_calls.specs.CallNames.{allows_amplified, allows_trailing, demands_of, HasFrame, ReportsInput, of_frame}
use Rattle.cap_calls.specs.CallNames.{of_no_words, of_words, size_found, ReportsText, Answer, Found, CallLimits, CallReport}
use Rattle.cap_calls.proofs.Answers.{one_input_reported, one_judged, one_returned}
use Rattle.cap_calls.proofs.Texts.{one_text}
use Rattle.cap_calls.proofs.Words.{few_words}
use Rattle.cap_canon.specs.CopyBuffers as capacity
use Rattle.cap_calls.specs.declared.answer.Answer.TheVariants as answer

abbrev found : Answer → ℕ → CallReport → Found
found a n r = record { answer = a; count = n; report = r }

-- what is found is known by its parts
pub same_found : (f g : Found) → f.answer ≡ g.answer → f.count ≡ g.count → f.report ≡ g.report → f ≡ g
same_found f g a n r = ap₂ (λ (x : Answer) (k : ℕ). found x k f.report) a n ∙ ap (found g.answer g.count) r

-- of an accepted message
one_copied : (old xs ys : List ℕ) (m : List (List ℕ)) (r : Report) (f g : Found) → FindsCopy old xs m r f
    → FindsCopy old ys m r g → (f ≡ g) × (xs ≡ ys)
one_copied old xs ys m r f g (has_capability c e k) (has_capability d i j) = (e ∙ sym i, k ∙ sym j)
one_copied old xs ys m r f g (has_capability c e k) (copied us h u i) = absurd
    (cap_no_copy m f.report.segment f.report.word us c h)
one_copied old xs ys m r f g (copied ws h t e) (has_capability d i j) = absurd
    (cap_no_copy m g.report.segment g.report.word ws d h)
one_copied old xs ys m r f g (copied ws h t e) (copied us j u i) =
    let same = one_copy m ws us h j in
    search (rules, one_text, same_found)

-- The call answers and gives one thing.
pub one_copy_reported : (l : CallLimits) (bs old : List ℕ) (a b : Answer) (n k : ℕ) (xs ys : List ℕ) (r q : CallReport)
    → ReportsCopy l bs old a n xs r → ReportsCopy l bs old b k ys q → (a ≡ b) × (n ≡ k) × (xs ≡ ys) × (r ≡ q)
one_copy_reported l bs old a b n k xs ys r q (f, t, h, e) (g, u, i, j) =
    let same = one_input_reported {S = xs ≡ ys} (not (allows_trailing l)) l bs f g (λ x y. x ∙ sym y)
    (λ m x y p s. one_judged {S = xs ≡ ys} (demands_of l) m l.charge l.depth x y (λ v w. v ∙ sym w)
    (λ z _ c d. one_copied old xs ys m z x y c d) p s)
    t u in
    let one = one_returned f g a b r q same.0 h i in
    (one.0, e ∙ (ap (λ (x : Found). x.count) same.0 ∙ sym j), same.1, one.1)

-- the report of a message in which a capability is reached names the first
cap_named : (m : List (List ℕ)) (first : Option (ℕ × ℕ)) (s w : ℕ) → IsFirstCapOf m first → IsFirstCap m s w
    → IsFirstCap m (unwrap_or first (0, 0)).0 (unwrap_or first (0, 0)).1
cap_named m None s w h k = absurd (h k.path k.first.holds)
cap_named m (Some (t, x)) s w h k = h

-- What is found of the capacity is what the call finds.
pub copy_found : (m : List (List ℕ)) (old new : List ℕ) (report : Report) (reported : Result ℕ BufferFault) (f : Found)
    → IsFirstCapOf m report.first_cap
    → ReportsBuffer m old reported new → f ≡ size_found reported report → FindsCopy old new m report f
copy_found m old new report reported f first (capacity.has_capability s w k e g) i =
    let same : f ≡ accepted_found answer.HasCapability 0 report = i
    ∙ ap (λ (t : Result ℕ BufferFault). size_found t report) e in
    has_capability (subst (λ (z : Found). IsFirstCap m z.report.segment z.report.word) (sym same)
    (cap_named m report.first_cap s w first k)) same g
copy_found m old new report reported f first (capacity.too_small ws k few e g) i =
    let same : f ≡ accepted_found answer.BufferTooSmall (length (plain_text ws)) report = i
    ∙ ap (λ (t : Result ℕ BufferFault). size_found t report) e in
    copied ws k (too_small few (ap (λ (x : Found). x.answer) same) (ap (λ (x : Found). x.count) same) g)
    (ap (λ (x : Found). x.report) same)
copy_found m old new report reported f first (capacity.written ws k few e g) i =
    let same : f ≡ accepted_found answer.Good (length (plain_text ws)) report = i
    ∙ ap (λ (t : Result ℕ BufferFault). size_found t report) e in
    copied ws k (written few (ap (λ (x : Found). x.answer) same) (ap (λ (x : Found). x.count) same) g)
    (ap (λ (x : Found). x.report) same)

-- how many bytes a text has, whether they fit or not
text_reported : (text old : List ℕ) (a : Answer) (n : ℕ) (new : List ℕ) → ReportsText text old a n new → n ≡ length text
text_reported text old a n new (too_small l e f g) = f
text_reported text old a n new (written l e f g) = f

-- a copy has few bytes beside the charge
few_copied : (demands : Demands) (old new : List ℕ) (m : List (List ℕ)) (w d : ℕ) (f : Found)
    → Copies old new demands m w d f
    → f.count ≤ 8 * (f.report.charge + 1)
few_copied demands old new m w d f (refused q h e k) = let none = ap (λ (x : Found). x.count) e in omega (arith, none)
few_copied demands old new m w d f (accepted q h n (has_capability c e k)) = let none = ap (λ (x : Found). x.count) e
    in omega (arith, none)
few_copied demands old new m w d f (accepted q (t, h) n (copied ws j u i)) =
    search (rules, copy_charged, text_reported, length_plain)

few_reported : (whole : Bool) (demands : Demands) (l : CallLimits) (bs old new : List ℕ) (f : Found)
    → ReportsWhole whole (new ≡ old) (Copies old new demands) l bs f → f.count ≤ 8 * (f.report.charge + 1)
few_reported whole demands l bs old new f (trailing m x y t h more e k) = let none = ap (λ (x : Found). x.count) e in
    omega (arith, none)
few_reported whole demands l bs old new f (reports none (without c h e k)) = let none = ap (λ (x : Found). x.count) e in
    omega (arith, none)
few_reported whole demands l bs old new f (reports none (framed m x y g h p e)) =
    search (rules, few_copied demands old new m l.charge l.depth g p)

pub few_input : (whole : Bool) (demands : Demands) (l : CallLimits) (bs old new : List ℕ) (f : Found)
    → ReportsInput whole (new ≡ old) (Copies old new demands) l bs f → f.count ≤ 8 * (f.report.charge + 1)
few_input whole demands l bs old new f (of_frame n t) = few_reported whole demands l bs old new f t
few_input whole demands l bs old new f (of_no_words y c h e k) = let none = ap (λ (x : Found). x.count) e in
    omega (arith, none)
few_input whole demands l bs old new f (of_words y g h p e) =
    search (rules, few_copied demands old new (plain_words bs ∷ []) l.charge l.depth g p)

-- and if it is unamplified, beside the words of the message
short_copied : (demands : Demands) (old new : List ℕ) (m : List (List ℕ)) (w d : ℕ) (f : Found)
    → demands.unamplified ≡ true
    → Copies old new demands m w d f → f.count ≤ 8 * (sum (sizes_of m) + 4097)
short_copied demands old new m w d f un (refused q h e k) = let none = ap (λ (x : Found). x.count) e in omega
    (arith, none)
short_copied demands old new m w d f un (accepted q h n (has_capability c e k)) = let none = ap
    (λ (x : Found). x.count) e in omega (arith, none)
short_copied demands old new m w d f un (accepted q (t, h) n (copied ws j u i)) =
    search (rules, copy_charged, text_reported, within_both, length_plain)

-- a frame has the words of its segments, and its table
frame_words : (l : CallLimits) (bs : List ℕ) (frame segments : ℕ) (m : List (List ℕ)) → HasFrame l bs frame segments m
    → 8 * sum (sizes_of m) ≤ frame
frame_words l bs frame segments m h = search (rules, length-append, length_joined)

short_reported : (whole : Bool) (l : CallLimits) (bs old new : List ℕ) (f : Found) → allows_amplified l ≡ false
    → ReportsWhole whole (new ≡ old) (Copies old new (demands_of l)) l bs f → f.count ≤ f.report.length + 8 * 4097
short_reported whole l bs old new f un (trailing m x y t h more e k) = let none = ap (λ (x : Found). x.count) e in omega
    (arith, none)
short_reported whole l bs old new f un (reports none (without c h e k)) = let none = ap (λ (x : Found). x.count) e in omega
    (arith, none)
short_reported whole l bs old new f un (reports none (framed m x y g h p e)) =
    let short = short_copied (demands_of l) old new m l.charge l.depth g (ap not un) p in
    let count = ap (λ (x : Found). x.count) e in
    let long : f.report.length ≡ x = ap (λ (x : Found). x.report.length) e in
    omega (arith, short, count, long, frame_words l bs x y m h)

pub short_input : (whole : Bool) (l : CallLimits) (bs old new : List ℕ) (f : Found) → allows_amplified l ≡ false
    → ReportsInput whole (new ≡ old) (Copies old new (demands_of l)) l bs f → f.count ≤ f.report.length + 8 * 4097
short_input whole l bs old new f un (of_frame n t) = short_reported whole l bs old new f un t
short_input whole l bs old new f un (of_no_words y c h e k) = let none = ap (λ (x : Found). x.count) e in
    omega (arith, none)
short_input whole l bs old new f un (of_words y g h p e) =
    let short = short_copied (demands_of l) old new (plain_words bs ∷ []) l.charge l.depth g (ap not un) p in
    let count = ap (λ (x : Found). x.count) e in
    let long : f.report.length ≡ length bs = ap (λ (x : Found). x.report.length) e in
    omega (arith, short, count, long, few_words bs)
