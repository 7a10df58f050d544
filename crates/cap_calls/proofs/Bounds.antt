-- The bounds of the header suffice.
use Rattle.cap_spec.proofs.Lemmas.{words_exact, length_joined, table_length}
use Rattle.cap_spec.proofs.ProofNames.{Bool, List, ap, arith, length, length-append, ℕ, ◌∙◌, ◌≡◌, ◌≤◌, ⊤, joined, sizes_of}
use Rattle.cap_spec.proofs.ProofNames.{rules}
use Rattle.cap_frame.specs.Fronts.{IsFront}
use Rattle.cap_calls.specs.CallFindings.{without}
use Rattle.cap_calls.specs.CallReports.{cause_input_required}
use Rattle.cap_calls.specs.Calls.{FindsFrame}
use Rattle.cap_calls.specs.CallNames.{frame_bound, ReportsCall, ReportsWhole, framed, reports, trailing, HasNoFrame, ReportsInput}
use Rattle.cap_calls.specs.CallNames.{of_frame, of_no_words, of_words, Found, NoFrame, CallLimits}

-- a frame within the limit, which is in the bytes
pub frame_short : (limit : ℕ) (bs : List ℕ) (m : List (List ℕ)) (n : ℕ) → IsFront limit bs m n → n ≤ frame_bound limit
frame_short limit bs m n h =
    let table = h.frames.table in
    let sizes = sizes_of m in
    let few : length sizes ≤ 512 = h.frames.is_table.few in
    let words = ap length h.frames.whole ∙ length-append table (joined m) in
    omega (arith, h.long, words, length_joined m, h.within, table_length table sizes h.frames.is_table, few)

pub frame_inside : (limit : ℕ) (bs : List ℕ) (m : List (List ℕ)) (n : ℕ) → IsFront limit bs m n → n ≤ length bs
frame_inside limit bs m n h =
    let words = ap length h.words ∙ length-append h.own h.rest in
    omega (arith, h.long, words, words_exact bs)

-- what is required of an input
cause_short : (l : CallLimits) (bs : List ℕ) (c : NoFrame) → HasNoFrame l bs c → cause_input_required c ≤ frame_bound l.message_words
cause_short l bs c h = search rules

pub frame_reported : (l : CallLimits) (bs : List ℕ) (f : Found) → ReportsCall ⊤ FindsFrame l bs f
    → (f.report.input_required ≤ frame_bound l.message_words) × (f.report.length ≤ frame_bound l.message_words)
frame_reported l bs f (without c h e k) = search (rules, cause_short)
frame_reported l bs f (framed m x y g h p e) =
    let same : f.report.input_required ≡ g.report.input_required = ap (λ (x : Found). x.report.input_required) e in
    let none : g.report.input_required ≡ 0 = ap (λ (x : Found). x.report.input_required) p in
    let long : f.report.length ≡ x = ap (λ (x : Found). x.report.length) e in
    (omega (arith, same, none), omega (arith, long, frame_short l.message_words bs m x h.front))

-- The frame that is reported is in the bytes.
pub length_inside : {K : Type 0} {P : List (List ℕ) → ℕ → ℕ → Found → Type 0} (whole : Bool) (l : CallLimits)
    (bs : List ℕ) (f : Found) → ReportsWhole whole K P l bs f → f.report.length ≤ length bs
length_inside whole l bs f (trailing m x y t h more e k) =
    let long : f.report.length ≡ x = ap (λ (z : Found). z.report.length) e in omega (arith, long, more)
length_inside whole l bs f (reports only (without c h e k)) =
    let none : f.report.length ≡ 0 = ap (λ (z : Found). z.report.length) e in omega (arith, none)
length_inside whole l bs f (reports only (framed m x y g h p e)) =
    let long : f.report.length ≡ x = ap (λ (z : Found). z.report.length) e in
    omega (arith, long, frame_inside l.message_words bs m x h.front)

pub input_inside : {K : Type 0} {P : List (List ℕ) → ℕ → ℕ → Found → Type 0} (whole : Bool) (l : CallLimits)
    (bs : List ℕ) (f : Found) → ReportsInput whole K P l bs f → f.report.length ≤ length bs
input_inside whole l bs f (of_frame n t) = length_inside whole l bs f t
input_inside whole l bs f (of_no_words y c h e k) =
    let none : f.report.length ≡ 0 = ap (λ (z : Found). z.report.length) e in omega (arith, none)
input_inside whole l bs f (of_words y g h p e) =
    let long : f.report.length ≡ length bs = ap (λ (z : Found). z.report.length) e in omega (arith, long)
