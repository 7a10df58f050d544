-- The bytes and the capacity decide where the segments of a frame are.
use Rattle.std.proofs.Common.{ext_get_or, get_or-set_other, get_or-set_same, slice_set}
use Rattle.cap_spec.proofs.ProofNames.{List, ap, arith, get_or, inl, inr, length, length-set, refl, subst, sym, ℕ, ◌+◌, ◌<◌}
use Rattle.cap_spec.proofs.ProofNames.{◌∙◌, ◌≡◌, ◌≤◌, leb_tells, length-map, plain_words, rules, segment_of, sizes_of}
use Rattle.std.specs.Prelude.{false, slice_range}
use Rattle.cap_frame.specs.Fronts.{IsFront}
use Rattle.cap_calls.specs.CallFindings.{without}
use Rattle.cap_calls.specs.CallNames.{ReportsCall, ReportsWhole, framed, reports, trailing, HasFrame, Answer, Good, Found}
use Rattle.cap_calls.specs.CallNames.{CallLimits, CallReport, NoFrame, cause_answer}
use Rattle.cap_calls.specs.ExtentCalls.{AreSegmentWords, FindsExtents, HasExtents, ReportsExtents, extent_of}
use Rattle.cap_calls.specs.ExtentCalls.{no_extent, too_small, written}
use Rattle.cap_calls.specs.declared.extent.CallExtent.{CallExtent}
use Rattle.cap_calls.proofs.Answers.{one_extent, one_reported, one_returned}
use Rattle.cap_calls.proofs.SegmentPlaces.{segment_words}

-- Where bytes may follow, none are an answer of their own.
pub not_whole : {K : Type 0} {P : List (List ℕ) → ℕ → ℕ → Found → Type 0} (l : CallLimits) (bs : List ℕ) (f : Found)
    → ReportsWhole false K P l bs f → ReportsCall K P l bs f
not_whole l bs f (reports only t) = t
not_whole l bs f (trailing m x y t h more e k) = absurd (cc t)

-- Where no extent is written, and where one more is.
module _ (m : List (List ℕ)) (old : List CallExtent) where
  pub none_written : HasExtents m 0 old old
  none_written = record { size = refl; each = λ s l. absurd (omega (arith, l)); rest = λ s l. refl }

  pub more_written : (new after : List CallExtent) (k : ℕ) (extent : CallExtent) → HasExtents m k old new
      → k < length new → extent ≡ extent_of m k → after ≡ slice_set new k extent → HasExtents m (k + 1) old after
  more_written new after k extent has lt is e = search (rules, length-set, get_or-set_other, slice_set, get_or-set_same)

-- A message has one list of extents.
one_extents : (old x y : List CallExtent) (m : List (List ℕ)) (f g : Found) → FindsExtents old x m f
    → FindsExtents old y m g → (f ≡ g) × (x ≡ y)
one_extents old x y m f g (too_small l e k) (too_small o i j) = (e ∙ sym i, k ∙ sym j)
one_extents old x y m f g (too_small l e k) (written o i j) = absurd (omega (arith, l, o))
one_extents old x y m f g (written l e k) (too_small o i j) = absurd (omega (arith, l, o))
one_extents old x y m f g (written l e a) (written o i b) = (
  e ∙ sym i,
  ext_get_or no_extent x y (a.size ∙ sym b.size) (λ s low. elim (leb_tells (length m) s) [
    | inl le ↦ (let h = le.1 in a.rest s h ∙ sym (b.rest s h))
    | inr lt ↦ (let h = lt.1 in a.each s h ∙ sym (b.each s h))
  ]),
)

-- So the call returns, writes and reports one thing.
pub one_extents_reported : (l : CallLimits) (bs : List ℕ) (old : List CallExtent) (a b : Answer) (n k : ℕ)
    (x y : List CallExtent) (r q : CallReport) → ReportsExtents l bs old a n x r → ReportsExtents l bs old b k y q
    → (a ≡ b) × (n ≡ k) × (x ≡ y) × (r ≡ q)
one_extents_reported l bs old a b n k x y r q (f, t, h, e) (g, u, i, j) =
    let same = one_reported {S = x ≡ y} l bs f g (λ c d. c ∙ sym d)
    (λ m v w c d. one_extents old x y m v w c d) t u in
    let one = one_returned f g a b r q same.0 h i in
    (one.0, e ∙ (ap (λ (z : Found). z.count) same.0 ∙ sym j), same.1, one.1)

-- There are few.
few_found : (old new : List CallExtent) (m : List (List ℕ)) (g : Found) → FindsExtents old new m g
    → g.count ≡ length m
few_found old new m g (too_small l e k) = ap (λ (z : Found). z.count) e
few_found old new m g (written l e k) = ap (λ (z : Found). z.count) e

pub few_extents : (l : CallLimits) (bs : List ℕ) (old new : List CallExtent) (f : Found)
    → ReportsCall (new ≡ old) (λ m words depth g. FindsExtents old new m g) l bs f → f.count ≤ 512
few_extents l bs old new f (without c h e k) = let none : f.count ≡ 0 = ap (λ (z : Found). z.count) e in omega (arith, none)
few_extents l bs old new f (framed m x y g h p e) =
    let count : f.count ≡ g.count = ap (λ (z : Found). z.count) e in
    let own = few_found old new m g p in
    let sizes : length (sizes_of m) ≡ length m = length-map m (λ (ws : List ℕ). length ws) in
    let few : length (sizes_of m) ≤ 512 = h.front.frames.is_table.few in
    omega (arith, count, own, sizes, few)

-- The words of the segments are at the extents that are written.
words_at : (limit : ℕ) (bs : List ℕ) (m : List (List ℕ)) (n s : ℕ) (e : CallExtent) → IsFront limit bs m n → s < length m
    → e ≡ extent_of m s → plain_words (slice_range bs e.offset (e.offset + e.length)) ≡ segment_of m s
words_at limit bs m n s e h l is =
    subst (λ (z : CallExtent). plain_words (slice_range bs z.offset (z.offset + z.length)) ≡ segment_of m s) (sym is)
    (segment_words limit bs m n s h l)

found_words : (l : CallLimits) (bs : List ℕ) (old new : List CallExtent) (m : List (List ℕ)) (x : ℕ) (g : Found)
    → IsFront l.message_words bs m x → g.answer ≡ Good → FindsExtents old new m g
    → (s : ℕ) → s < length m
    → (let e = get_or new s no_extent in plain_words (slice_range bs e.offset (e.offset + e.length)) ≡ segment_of m s)
found_words l bs old new m x g h good (too_small few e k) s low = absurd (cc (good, ap (λ (z : Found). z.answer) e))
found_words l bs old new m x g h good (written enough e has) s low =
    words_at l.message_words bs m x s (get_or new s no_extent) h low (has.each s low)

no_good_cause : (c : NoFrame) → cause_answer c ≡ Good → ⊥
no_good_cause c e = search rules

pub extents_are_words : (l : CallLimits) (bs : List ℕ) (old : List CallExtent) (a : Answer) (n : ℕ) (new : List CallExtent)
    (r : CallReport) → ReportsExtents l bs old a n new r → a ≡ Good → AreSegmentWords l.message_words bs new
extents_are_words l bs old a n new r (f, without c h e k, i, j) good = λ m x s front low.
    absurd (no_good_cause c (sym (ap (λ (z : Found). z.answer) e) ∙ (sym i.0 ∙ good)))
extents_are_words l bs old a n new r (f, framed o x y g h p e, i, j) good = λ m z s front low.
    let also : HasFrame l bs z (length m) m = record { are_limits = h.are_limits; front = front; count = refl } in
    let one = (one_extent l bs x z y (length m) o m h also).2 in
    let same : g.answer ≡ Good = sym (ap (λ (q : Found). q.answer) e) ∙ (sym i.0 ∙ good) in
    let found = subst (λ (q : List (List ℕ)). FindsExtents old new q g) one p in
    found_words l bs old new m z g front same found s low
