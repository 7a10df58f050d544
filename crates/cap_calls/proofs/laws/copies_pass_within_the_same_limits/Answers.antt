use Rattle.std.proofs.Math.Nat.{min-le_left}
use Rattle.std.proofs.Math.Seq.{take-append_seam}
use Rattle.cap_spec.proofs.Canonical.Copies.{copy_denotes, copy_is_canonical}
use Rattle.cap_spec.proofs.Canonical.LayoutWords.{layout_is_words}
use Rattle.cap_spec.proofs.Lemmas.{all_back, length_plain, one_tree, plain_split}
use Rattle.cap_spec.proofs.Packed.Unpacking.{plain_reads}
use Rattle.cap_spec.proofs.ProofNames.{AllByRecursion, Bool, HasCopy, IsWord, List, [], ap, arith, drop, false}
use Rattle.cap_spec.proofs.ProofNames.{if◌then◌else◌, joined, length, not, plain_text, plain_words, refl, rules, subst}
use Rattle.cap_spec.proofs.ProofNames.{sym, take, trim, ℕ, ⊤, ◌*◌, ◌++◌, ◌+◌, ◌<◌, ◌^◌, ◌∙◌, ◌∷◌, ◌≡◌, ◌≤◌, unamplified}
use Rattle.cap_spec.proofs.ProofNames.{IsStrict, IsWithin, most_words}
use Rattle.cap_spec.proofs.Strict.Copies.{copy_strict}
use Rattle.cap_canon.proofs.Copies.{copy_charged}
use Rattle.cap_vet.specs.VetNames.{Meets, words_under}
use Rattle.cap_calls.specs.CallFindings.{accepted, without}
use Rattle.cap_calls.specs.CallFlags.{copy_limits}
use Rattle.cap_calls.specs.CallInputs.{AreWordLimits, IsNoSegment}
use Rattle.cap_calls.specs.CallLaws.{AreBytes, WritesCopy}
use Rattle.cap_calls.specs.CallNames.{Answer, BadLimits, CallLimits, CallReport, Demands, Fault, Found, Good, HasFrame}
use Rattle.cap_calls.specs.CallNames.{Judges, NoFrame, cause_answer, demands_of, framed, of_frame, of_no_words}
use Rattle.cap_calls.specs.CallNames.{of_words, refused, reports, trailing}
use Rattle.cap_calls.specs.Calls.{IsCheck, ReportsCheckWords, canonical, not_canonical}
use Rattle.cap_calls.specs.CanonicalCalls.{Copies, copied, has_capability}
use Rattle.cap_calls.specs.PackCalls.{too_small, written}
use Rattle.cap_calls.specs.declared.front.NoFrame.TheVariants.{NoMessage}
use Rattle.cap_frame.specs.declared.fault.FrontFault.TheVariants.{TooLarge, TooManySegments, Truncated}
use Rattle.cap_calls.proofs.Answers.{meets_no_fault}
use Rattle.cap_calls.proofs.CopyLimits.{copy_amplified, copy_no_table, copy_of_frame, copy_of_words, copy_words}
use Rattle.cap_calls.proofs.Wider.{cause_not_zero, not_zero, refusal_not_zero}
use Rattle.cap_calls.proofs.Words.{one_input}
use Rattle.cap_calls.specs.declared.answer.Answer.TheVariants as answer
use Rattle.cap_calls.proofs.laws.copies_pass_within_the_same_limits.Goals as goal

-- What the call for a canonical copy wrote is canonical for the call that checks words.
-- Each word of a message in a frame of bytes is one.
abbrev AreWords : List (List ℕ) → Type 0
AreWords m = AllByRecursion (AllByRecursion IsWord) m

all_front : (xs ys : List ℕ) → AllByRecursion IsWord (xs ++ ys) → AllByRecursion IsWord xs
all_front [] ys a = tt
all_front (x ∷ xs) ys a = (a.0, all_front xs ys a.1)

segments_fit : (m : List (List ℕ)) → AllByRecursion IsWord (joined m) → AreWords m
segments_fit [] a = tt
segments_fit (s ∷ m) a = (all_front s (joined m) a, segments_fit m (all_back IsWord s (joined m) a))

frame_fits : (l : CallLimits) (bs : List ℕ) (x y : ℕ) (m : List (List ℕ)) → AreBytes bs → HasFrame l bs x y m → AreWords m
frame_fits l bs x y m bytes h =
    let f = h.front in
    let all = subst (λ (ws : List ℕ). AllByRecursion IsWord ws) f.words (plain_split bs bytes).are_words in
    let own = subst (λ (ws : List ℕ). AllByRecursion IsWord ws) f.frames.whole (all_front f.own f.rest all) in
    segments_fit m (all_back IsWord f.frames.table (joined m) own)

-- The words of a copy of a message within the limits, and what is reported of the message.
record IsCopyOf (l : CallLimits) (bs copy : List ℕ) (r : CallReport) : Type 0 where
  pub m : List (List ℕ)
  pub words : List ℕ
  pub made : HasCopy m words
  pub text : copy ≡ plain_text words
  pub fit : AreBytes bs → AreWords m
  pub few : made.charge ≤ l.charge
  pub shallow : made.depth ≤ l.depth
  pub charged : r.charge ≡ made.charge
  pub deep : r.depth ≡ made.depth
  pub limits : AreWordLimits (copy_limits l)
  pub form : l.form ≤ 2

-- the limit under demands is no higher
under_le : (b : Bool) (m : List (List ℕ)) (w : ℕ) → (if b then unamplified m w else w) ≤ w
under_le b m w = search (rules, min-le_left)

good_not : (a : Answer) → a ≡ Good → (a ≡ Good → ⊥) → ⊥
good_not a e n = n e

-- A message that the call copied has this copy.
copy_of : (l : CallLimits) (bs old new copy : List ℕ) (m : List (List ℕ)) (r : CallReport) (g : Found)
    → AreWordLimits (copy_limits l) → l.form ≤ 2 → (AreBytes bs → AreWords m) → g.answer ≡ Good → length copy ≡ g.count
    → copy ≡ take (length copy) new → r.charge ≡ g.report.charge → r.depth ≡ g.report.depth
    → Copies old new (demands_of l) m l.charge l.depth g → IsCopyOf l bs copy r
copy_of l bs old new copy m r g good form fit a n front charge depth (refused u h e k) =
    absurd (not_zero _ (refusal_not_zero u) (sym (ap (λ (z : Found). z.answer) e) ∙ a))
copy_of l bs old new copy m r g good form fit a n front charge depth (accepted u h k (has_capability c e i)) =
    let none : g.answer ≡ answer.HasCapability = ap (λ (z : Found). z.answer) e in absurd (let both = sym a ∙ none in cc)
copy_of l bs old new copy m r g good form fit a n front charge depth (accepted u h k (copied ws made (too_small less b i j) e)) =
    absurd (let both = sym a ∙ b in cc)
copy_of l bs old new copy m r g good form fit a n front charge depth (accepted u (t, h) k (copied ws made (written fits b i j) e)) =
    let text = plain_text ws in
    let same = one_tree m 0 0 t made.tree u.charge u.depth made.charge made.depth h.within.denotes made.denotes in
    let few : u.charge ≤ words_under (demands_of l) m l.charge = h.within.few_words in
    let under = under_le (demands_of l).unamplified m l.charge in
    record {
      m = m;
      words = ws;
      made = made;
      text = front ∙ (ap (λ (k : ℕ). take k new) (n ∙ i) ∙ (ap (take (length text)) j ∙ take-append_seam text (drop (length text) old)));
      fit = fit;
      few = omega (arith, few, under, same.charge);
      shallow = (let deep = h.within.few_levels in omega (arith, deep, same.depth));
      charged = charge ∙ (ap (λ (z : CallReport). z.charge) e ∙ same.charge);
      deep = depth ∙ (ap (λ (z : CallReport). z.depth) e ∙ same.depth);
      limits = good;
      form = form;
    }

written_copy : (l : CallLimits) (bs copy : List ℕ) (r : CallReport) → WritesCopy l bs copy r → IsCopyOf l bs copy r
written_copy l bs copy r (old, new, (f, of_frame n (trailing m x y t h more e k), (a, b), c), front) =
    let none : f.answer ≡ answer.Trailing = ap (λ (z : Found). z.answer) e in absurd (let both = a ∙ none in cc)
written_copy l bs copy r (old, new, (f, of_frame n (reports only (without cause h e k)), (a, b), c), front) =
    absurd (not_zero _ (cause_not_zero cause) (sym (a ∙ ap (λ (z : Found). z.answer) e)))
written_copy l bs copy r (old, new, (f, of_frame n (reports only (framed m x y g h p e)), (a, b), c), front) =
    copy_of l bs old new copy m r g (copy_of_frame l h.are_limits) (let k = h.are_limits.flags.form in omega (arith, k)) (λ bytes. frame_fits l bs x y m bytes h)
    (sym (a ∙ ap (λ (z : Found). z.answer) e)) (c ∙ ap (λ (z : Found). z.count) e) front
    (ap (λ (z : CallReport). z.charge) b ∙ ap (λ (z : Found). z.report.charge) e)
    (ap (λ (z : CallReport). z.depth) b ∙ ap (λ (z : Found). z.report.depth) e) p
written_copy l bs copy r (old, new, (f, of_no_words y cause h e k, (a, b), c), front) =
    absurd (not_zero _ (cause_not_zero cause) (sym (a ∙ ap (λ (z : Found). z.answer) e)))
written_copy l bs copy r (old, new, (f, of_words y g h p e, (a, b), c), front) =
    copy_of l bs old new copy (plain_words bs ∷ []) r g (copy_of_words l h.are_limits) (let k = h.are_limits.flags.form in omega (arith, k))
    (λ bytes. ((plain_split bs bytes).are_words, tt))
    (sym (a ∙ ap (λ (z : Found). z.answer) e)) (c ∙ ap (λ (z : Found). z.count) e) front
    (ap (λ (z : CallReport). z.charge) b ∙ ap (λ (z : Found). z.report.charge) e)
    (ap (λ (z : CallReport). z.depth) b ∙ ap (λ (z : Found). z.report.depth) e) p

-- without the demand the limit is the one that was given
under_amplified : (d : Demands) (m : List (List ℕ)) (w : ℕ) → d.unamplified ≡ false → words_under d m w ≡ w
under_amplified d m w e = rw e refl

module _ (l : CallLimits) (bs copy : List ℕ) (r : CallReport) (k : IsCopyOf l bs copy r) where
  below : k.made.charge < 2 ^ 29
  below = let few = k.few in let most = k.limits.few in omega (arith, few, most)

  long : length copy ≡ 8 * length k.words
  long = ap length k.text ∙ length_plain k.words

  some : 0 < length copy
  some = let e = ap length k.made.laid in omega (arith, long, e)

  abbrev demands : Demands
  demands = demands_of (copy_limits l)

  meets : Meets demands (k.words ∷ []) l.charge l.depth
  meets =
      let strict = copy_strict k.m k.words l.charge l.depth k.made below k.few k.shallow in
      let same = under_amplified demands (k.words ∷ []) l.charge (ap not (copy_amplified l)) in
      record {
        within = subst (λ (w : ℕ). IsWithin (k.words ∷ []) w l.depth) (sym same) strict.accepted;
        strict = λ _. subst (λ (w : ℕ). IsStrict (k.words ∷ []) w l.depth) (sym same) strict;
      }

  judged : (g : Found) → Judges demands ⊤ IsCheck (k.words ∷ []) l.charge l.depth g
      → (g.answer ≡ Good) × (g.report.charge ≤ r.charge) × (g.report.depth ≡ r.depth)
  judged g (refused u h e i) = absurd (meets_no_fault demands (k.words ∷ []) l.charge l.depth u meets h)
  judged g (accepted u h n (not_canonical other e)) = absurd (other (copy_is_canonical k.m k.words k.made below))
  judged g (accepted u (t, h) n (canonical is e)) =
      let own = copy_denotes k.m k.words k.made.tree k.made.charge k.made.depth k.made k.made.denotes below in
      let same = one_tree (k.words ∷ []) 0 0 t (trim k.made.tree) u.charge u.depth own.0 k.made.depth h.within.denotes own.1 in
      let charge : g.report.charge ≡ u.charge = ap (λ (z : Found). z.report.charge) e in
      let depth : g.report.depth ≡ u.depth = ap (λ (z : Found). z.report.depth) e in (
        ap (λ (z : Found). z.answer) e,
        omega (arith, charge, same.charge, own.2, k.charged),
        depth ∙ (same.depth ∙ sym k.deep),
      )

  charged : length k.words ≤ l.charge + 1
  charged =
      let one = copy_charged k.m k.made.tree k.made.charge k.made.depth k.words k.made.denotes k.made in
      let few = k.few in omega (arith, one, few)

  -- The bytes aren't words for no other cause than that they are too many.
  no_cause : (c : NoFrame) → IsNoSegment (copy_limits l) copy c → (8 * most_words < length copy)
      × (cause_answer c ≡ answer.TooLarge)
  no_cause BadLimits h = absurd (h k.limits)
  no_cause NoMessage h = absurd (let e = ap length h.1 in omega (arith, some, e))
  no_cause (Fault (TooManySegments count)) h = absurd h
  no_cause (Fault (TooLarge words)) h =
      let more = h.1 in
      let most = copy_words l in
      let few = charged in (omega (arith, more, most, few, long), refl)
  no_cause (Fault (Truncated needed)) h = absurd (let cut = h.2 in omega (arith, long, cut))

  checked : (a : Answer) (q : CallReport) → AreBytes bs → ReportsCheckWords l copy a q → length copy ≤ 8 * most_words
      → (a ≡ Good) × (q.charge ≤ r.charge) × (q.depth ≡ r.depth)
  checked a q bytes (f, of_frame n t, h) few = one_input (copy_limits l) n (copy_no_table l k.form)
  checked a q bytes (f, of_no_words y c h e i, j) few =
      let large = (no_cause c h).0 in absurd (omega (arith, large, few))
  checked a q bytes (f, of_words y g h p e, (i, j)) few =
      let fit = subst (λ (ws : List ℕ). AllByRecursion IsWord ws) (sym k.made.laid)
      (layout_is_words k.m 0 0 k.made.tree k.made.charge k.made.depth (k.fit bytes) k.made.denotes below) in
      let same : plain_words copy ≡ k.words = ap plain_words k.text ∙ plain_reads k.words fit in
      let found = judged g (subst (λ (ws : List ℕ). Judges demands ⊤ IsCheck (ws ∷ []) l.charge l.depth g) same p) in
      let charge : q.charge ≡ g.report.charge = ap (λ (z : CallReport). z.charge) j ∙ ap (λ (z : Found). z.report.charge) e in (
        i ∙ (ap (λ (z : Found). z.answer) e ∙ found.0),
        (let less = found.1 in omega (arith, charge, less)),
        ap (λ (z : CallReport). z.depth) j ∙ (ap (λ (z : Found). z.report.depth) e ∙ found.2),
      )

  large : (a : Answer) (q : CallReport) → ReportsCheckWords l copy a q → 8 * most_words < length copy
      → a ≡ answer.TooLarge
  large a q (f, of_frame n t, h) more = one_input (copy_limits l) n (copy_no_table l k.form)
  large a q (f, of_no_words y c h e i, j) more = j.0 ∙ (ap (λ (z : Found). z.answer) e ∙ (no_cause c h).1)
  large a q (f, of_words y g h p e, j) more = absurd (let within = h.within in let small = k.limits.small in omega (arith, within, small, more))

  short : l.charge < most_words → length copy ≤ 8 * most_words
  short less = let few = charged in omega (arith, long, few, less)

checked_good : (l : CallLimits) (bs copy : List ℕ) (r : CallReport) (a : Answer) (q : CallReport) → AreBytes bs
    → WritesCopy l bs copy r → ReportsCheckWords l copy a q → length copy ≤ 8 * most_words
    → (a ≡ Good) × (q.charge ≤ r.charge) × (q.depth ≡ r.depth)
checked_good l bs copy r a q bytes w c few = checked l bs copy r (written_copy l bs copy r w) a q bytes c few

checked_large : (l : CallLimits) (bs copy : List ℕ) (r : CallReport) (a : Answer) (q : CallReport)
    → WritesCopy l bs copy r → ReportsCheckWords l copy a q → 8 * most_words < length copy → a ≡ answer.TooLarge
checked_large l bs copy r a q w c more = large l bs copy r (written_copy l bs copy r w) a q c more

never_large : (l : CallLimits) (bs copy : List ℕ) (r : CallReport) → WritesCopy l bs copy r
    → l.charge < most_words → length copy ≤ 8 * most_words
never_large l bs copy r w less = short l bs copy r (written_copy l bs copy r w) less

pub returns-clause-good : goal.returns-clause-good
returns-clause-good c = checked_good

pub returns-clause-too_large : goal.returns-clause-too_large
returns-clause-too_large c = checked_large

pub returns-clause-few_words : goal.returns-clause-few_words
returns-clause-few_words c = never_large
