-- What isn't refused isn't refused with higher limits and more flags.
use Rattle.std.proofs.Math.Nat.{le-min, min-le_left, min-le_right}
use Rattle.cap_spec.proofs.ProofNames.{Bool, List, [], ap, arith, false, if◌then◌else◌, min, not, refl, subst, sum}
use Rattle.cap_spec.proofs.ProofNames.{sym, true, ℕ, ◌*◌, ◌+◌, ◌-◌, ◌<◌, ◌∙◌, ◌∷◌, ◌≡◌, ◌≤◌, false≢true, ⊤, sizes_of}
use Rattle.cap_spec.proofs.ProofNames.{length, plain_words, rules}
use Rattle.cap_spec.proofs.Strict.Faults.{strict_wider, within_wider}
use Rattle.cap_vet.specs.PathDemands.{KeepsToLimits, MeetsOnPath}
use Rattle.cap_vet.specs.VetNames.{Meets, words_under, IsAccepted}
use Rattle.cap_calls.specs.AnswerNumbers.{answer_number}
use Rattle.cap_calls.specs.CallFindings.{accepted, detail_of, framed_found, without}
use Rattle.cap_calls.specs.CallFlags.{AllowsMore, allows_nonstrict, charge_limit}
use Rattle.cap_calls.specs.Slices.{segments_in, words_of_slices}
use Rattle.cap_calls.specs.CallInputs.{AreInputLimits, AreWordLimits}
use Rattle.cap_calls.specs.CallLaws.{RefusesNothing}
use Rattle.cap_calls.specs.CallNames.{Reason, Step, StrictRefusal, Report, reason_answer, refusal_answer, Judges, ReportsCall}
use Rattle.cap_calls.specs.CallNames.{ReportsWhole, framed, refused, reports, trailing, allows_trailing, demands_of}
use Rattle.cap_calls.specs.CallNames.{AreLimits, HasFrame, HasTrailing, IsSegment, ReportsInput, cause_answer}
use Rattle.cap_calls.specs.CallNames.{Answer, Found, NoFrame, CallLimits, CallNode, CallStep, Gets}
use Rattle.cap_calls.specs.CallNames.{a_node, a_path, bad_path, no_meeting, no_node, none_node, path_found, EndsRange}
use Rattle.cap_calls.specs.CallNames.{GetsRange, full, path_after, stops, message}
use Rattle.cap_calls.specs.EarlierCalls.{FindsEarlierCall, earlier}
use Rattle.cap_calls.specs.CallFlags.{has_no_table}
use Rattle.cap_calls.specs.ExplainCalls.{FindsLines}
use Rattle.cap_calls.specs.NodeCalls.{ReportsPathCall, bad_limits}
use Rattle.cap_calls.specs.PointerCalls.{FindsPointer, IsNumberedPath, too_small, written}
use Rattle.cap_calls.specs.RangeCalls.{ReportsSteps}
use Rattle.cap_calls.specs.SegmentsCalls.{FindsSegments, no_message, segments_answer}
use Rattle.cap_calls.specs.declared.slices.SlicesFault.{SlicesFault}
use Rattle.cap_calls.proofs.Answers.{one_extent}
use Rattle.cap_calls.specs.CallInputs as input
use Rattle.cap_calls.specs.EarlierCalls as earlier_call
use Rattle.cap_calls.specs.ExplainCalls as lines
use Rattle.cap_calls.specs.PointerCalls as pointer
use Rattle.cap_calls.specs.RangeCalls as range
use Rattle.cap_calls.specs.SegmentsCalls as parts
use Rattle.cap_calls.specs.declared.answer.Answer.TheVariants as answer

-- no other answer has the number 0
pub not_zero : (a : Answer) → 1 ≤ answer_number a → a ≡ answer.Good → ⊥
not_zero a some e = omega (arith, some, ap answer_number e)

pub cause_not_zero : (c : NoFrame) → 1 ≤ answer_number (cause_answer c)
cause_not_zero c = search rules

reason_not_zero : (r : Reason) → 1 ≤ answer_number (reason_answer r)
reason_not_zero r = search rules

pub refusal_not_zero : (r : StrictRefusal) → 1 ≤ answer_number (refusal_answer r)
refusal_not_zero r = search (rules, reason_not_zero)

-- the answers that refuse
cause_refuses : (c : NoFrame) → RefusesNothing (cause_answer c) → ⊥
cause_refuses c h = search rules

reason_refuses : (r : Reason) → RefusesNothing (reason_answer r) → ⊥
reason_refuses r h = search rules

refusal_refuses : (r : StrictRefusal) → RefusesNothing (refusal_answer r) → ⊥
refusal_refuses r h = search (rules, reason_refuses)

segments_refuse : (r : SlicesFault) → RefusesNothing (segments_answer r) → ⊥
segments_refuse r h = search rules

-- an answer is what it is equal to
same_answer : (f g : Found) → f ≡ g → f.answer ≡ g.answer
same_answer f g e = ap (λ (z : Found). z.answer) e

kept : (a b : Answer) → a ≡ b → RefusesNothing a → RefusesNothing b
kept a b e h = subst RefusesNothing e h

-- an answer that refuses nothing has its own detail
same_detail : (a : Answer) (x y d : ℕ) → RefusesNothing a → detail_of a x d ≡ detail_of a y d
same_detail a x y d ok = search rules

-- a flag that is not set in k is not set in l
unset : (b c : Bool) → (b ≡ true → c ≡ true) → not c ≡ true → not b ≡ true
unset true c more e = absurd (false≢true (ap not (sym (more refl)) ∙ e))
unset false c more e = refl

-- the pointers on a path keep to higher limits
keeps_wider : (m : List (List ℕ)) (w d w' d' : ℕ) (path : List Step) → w ≤ w' → d ≤ d' → KeepsToLimits m w d path
    → KeepsToLimits m w' d' path
keeps_wider m w d w' d' path h g (left, c) = (
  left + (w' - w),
  record {
    ways = c.ways;
    on_path = c.on_path;
    some = c.some;
    cost = c.cost;
    costs = c.costs;
    shallow = λ p level s v i r (x, t, b, q, tag, found, tagged, past).
        c.shallow p level s v i r (x, t, b, q, tag, found, tagged, omega (arith, past, g));
    consumed = omega (arith, c.consumed, h);
  },
)

module _ (l k : CallLimits) (more : AllowsMore l k) where
  -- the word limit is no lower
  lower : (m : List (List ℕ)) (b c : Bool) → (not c ≡ true → not b ≡ true)
      → (if not b then min l.charge (sum (sizes_of m) + 4096) else l.charge) ≤
      (if not c then min k.charge (sum (sizes_of m) + 4096) else k.charge)
  lower m b c h = search (rules, false≢true, min-le_left, le-min, min-le_right)

  limit : (m : List (List ℕ)) → words_under (demands_of l) m l.charge ≤ words_under (demands_of k) m k.charge
  limit m = search (rules, lower, unset)

  accepts : (m : List (List ℕ)) (r : Report) → IsAccepted m (words_under (demands_of l) m l.charge) l.depth r
      → IsAccepted m (words_under (demands_of k) m k.charge) k.depth r
  accepts m r (t, h) = search (rules, limit m)

  meets : (m : List (List ℕ)) → Meets (demands_of l) m l.charge l.depth → Meets (demands_of k) m k.charge k.depth
  meets m h =
      record {
        within = within_wider m (words_under (demands_of l) m l.charge) l.depth
            (words_under (demands_of k) m k.charge) k.depth h.within (limit m) more.depth;
        strict = λ e. strict_wider m (words_under (demands_of l) m l.charge) l.depth
            (words_under (demands_of k) m k.charge) k.depth
            (h.strict (unset (allows_nonstrict l) (allows_nonstrict k) more.nonstrict e)) (limit m) more.depth;
      }

  -- what is found of an accepted message
  pub judged : {K : Type 0} {F : List (List ℕ) → Report → Found → Type 0} (m : List (List ℕ)) (f : Found)
      → RefusesNothing f.answer → Judges (demands_of l) K F m l.charge l.depth f
      → Judges (demands_of k) K F m k.charge k.depth f
  judged m f ok (refused v u j i) = absurd (refusal_refuses v (subst (λ (z : Found). RefusesNothing z.answer) j ok))
  judged m f ok (accepted v u n j) = accepted v (accepts m v u) (meets m n) j

  frame : (bs : List ℕ) (x y : ℕ) (m : List (List ℕ)) → AreLimits k → HasFrame l bs x y m → HasFrame k bs x y m
  frame bs x y m good h =
      record {
        are_limits = good;
        front = record {
          own = h.front.own;
          rest = h.front.rest;
          words = h.front.words;
          frames = h.front.frames;
          within = omega (arith, h.front.within, more.size);
          long = h.front.long;
        };
        count = h.count;
      }

  none : (bs : List ℕ) (x y : ℕ) (m : List (List ℕ)) (v w : Bool) → AreLimits k → HasFrame l bs x y m
      → (w ≡ true → ¬ HasTrailing l bs) → (v ≡ true → w ≡ true) → v ≡ true → ¬ HasTrailing k bs
  none bs x y m v w good h only t e (n, a, b, g, less) =
      only (t e) (m, x, y, h, subst (λ (z : ℕ). z < length bs) (one_extent k bs a x b y n m g (frame bs x y m good h)).0 less)

  wider_words : (bs : List ℕ) → AreWordLimits k → IsSegment l bs → IsSegment k bs
  wider_words bs good h = search rules

  may_trail : not (allows_trailing k) ≡ true → not (allows_trailing l) ≡ true
  may_trail e = unset (allows_trailing l) (allows_trailing k) more.trailing e

  -- of what isn't refused the limit of the charge isn't reported
  same_framed : (x : ℕ) (m : List (List ℕ)) (f g : Found) → f ≡ framed_found l x m g → RefusesNothing f.answer
      → f ≡ framed_found k x m g
  same_framed x m f g e ok =
      let same = same_detail g.answer (charge_limit l m) (charge_limit k m) g.report.detail
      (subst RefusesNothing (ap (λ (z : Found). z.answer) e) ok) in
      e ∙ ap (λ (d : ℕ). record (framed_found k x m g) { report = record (framed_found k x m g).report { detail = d } }) same

  -- what is reported of bytes, if what is found of a message is found with the higher limits too
  module _ {K : Type 0} {P Q : List (List ℕ) → ℕ → ℕ → Found → Type 0} (bs : List ℕ) (f : Found)
      (ok : RefusesNothing f.answer)
      (p : (m : List (List ℕ)) (g : Found) → f.answer ≡ g.answer → P m l.charge l.depth g → Q m k.charge k.depth g) where
    pub reported : AreLimits k → ReportsCall K P l bs f → ReportsCall K Q k bs f
    reported good (without c h e i) = absurd (cause_refuses c (subst (λ (z : Found). RefusesNothing z.answer) e ok))
    reported good (framed m x y g h i e) =
        framed m x y g (frame bs x y m good h) (p m g (ap (λ (z : Found). z.answer) e) i) (same_framed x m f g e ok)

    pub whole_reported : (w v : Bool) → (v ≡ true → w ≡ true) → AreLimits k → ReportsWhole w K P l bs f
        → ReportsWhole v K Q k bs f
    whole_reported w v t good (trailing m x y b h less e i) =
        absurd (subst (λ (z : Found). RefusesNothing z.answer) e ok)
    whole_reported w v t good (reports only (without c h e i)) =
        absurd (cause_refuses c (subst (λ (z : Found). RefusesNothing z.answer) e ok))
    whole_reported w v t good (reports only (framed m x y g h i e)) =
        reports (none bs x y m v w good h only t)
        (framed m x y g (frame bs x y m good h) (p m g (ap (λ (z : Found). z.answer) e) i) (same_framed x m f g e ok))

    pub input_reported : (w v : Bool) → (v ≡ true → w ≡ true) → AreInputLimits k → ReportsInput w K P l bs f
        → ReportsInput v K Q k bs f
    input_reported w v t good (input.of_frame n r) =
        let off = sym more.table ∙ n in input.of_frame off (whole_reported w v t (good.frame off) r)
    input_reported w v t good (input.of_no_words y c h e i) =
        absurd (cause_refuses c (subst (λ (z : Found). RefusesNothing z.answer) e ok))
    input_reported w v t good (input.of_words y g h i e) =
        let on = sym more.table ∙ y in
        input.of_words on g (wider_words bs (good.words on) h)
        (p (plain_words bs ∷ []) g (ap (λ (z : Found). z.answer) e) i)
        (same_framed (length bs) (plain_words bs ∷ []) f g e ok)

    pub flags_reported : AreInputLimits k → ReportsInput (not (allows_trailing l)) K P l bs f
        → ReportsInput (not (allows_trailing k)) K Q k bs f
    flags_reported good r = input_reported (not (allows_trailing l)) (not (allows_trailing k)) may_trail good r

    pub message_reported : AreLimits k → ReportsWhole (not (allows_trailing l)) K P l bs f
        → ReportsWhole (not (allows_trailing k)) K Q k bs f
    message_reported good r = whole_reported (not (allows_trailing l)) (not (allows_trailing k)) may_trail good r

  -- the pointers on a path
  path_meets : (m : List (List ℕ)) (path : List Step) → MeetsOnPath (demands_of l) m l.charge l.depth path
      → MeetsOnPath (demands_of k) m k.charge k.depth path
  path_meets m path h =
      record {
        within = keeps_wider m (words_under (demands_of l) m l.charge) l.depth
            (words_under (demands_of k) m k.charge) k.depth path (limit m) more.depth h.within;
        strict = λ e. h.strict (unset (allows_nonstrict l) (allows_nonstrict k) more.nonstrict e);
      }

  gets : (path : List Step) (node : CallNode) (m : List (List ℕ)) (g : Found) → RefusesNothing g.answer
      → Gets path node (demands_of l) m l.charge l.depth g → Gets path node (demands_of k) m k.charge k.depth g
  gets path node m g ok (no_meeting v u e n) =
      absurd (refusal_refuses v (subst (λ (z : Found). RefusesNothing z.answer) e ok))
  gets path node m g ok (no_node h missing e n) = no_node (path_meets m path h) missing e n
  gets path node m g ok (a_node kind t b n h found e i) = a_node kind t b n (path_meets m path h) found e i

  pub path_reported : (bs text : List ℕ) (node : CallNode) (f : Found) → AreLimits k → RefusesNothing f.answer
      → ReportsPathCall l bs text node f → ReportsPathCall k bs text node f
  path_reported bs text node f good ok (bad_limits bad e n) =
      absurd (subst (λ (z : Found). RefusesNothing z.answer) e ok)
  path_reported bs text node f good ok (bad_path at are bad e n) =
      absurd (subst (λ (z : Found). RefusesNothing z.answer) e ok)
  path_reported bs text node f good ok (a_path path steps e t) =
      a_path path steps e
      (message_reported bs f ok (λ m g a h. gets path node m g (kept f.answer g.answer a ok) h) good t)

  -- the nodes of a range
  ends : (path : ℕ → List Step) (capacity : ℕ) (m : List (List ℕ)) (g : Found) → RefusesNothing g.answer
      → EndsRange path capacity (demands_of l) m l.charge l.depth g
      → EndsRange path capacity (demands_of k) m k.charge k.depth g
  ends path capacity m g ok (full e) = full e
  ends path capacity m g ok (stops less i h ne e) =
      stops less i (gets (path g.count) none_node m i (subst (λ (z : Found). RefusesNothing z.answer) e ok) h) ne e

  gets_range : (path : ℕ → List Step) (old new : List CallNode) (m : List (List ℕ)) (g : Found) → RefusesNothing g.answer
      → GetsRange path old new (demands_of l) m l.charge l.depth g
      → GetsRange path old new (demands_of k) m k.charge k.depth g
  gets_range path old new m g ok h =
      record {
        size = h.size;
        nodes = λ i less. gets (path i) _ m (path_found answer.Good) tt (h.nodes i less);
        rest = h.rest;
        end = ends path (length old) m g ok h.end;
      }

  pub steps_reported : (bs : List ℕ) (steps : List CallStep) (varying : ℕ) (old new : List CallNode) (f : Found)
      → AreLimits k → RefusesNothing f.answer → ReportsSteps l bs steps varying old new f
      → ReportsSteps k bs steps varying old new f
  steps_reported bs steps varying old new f good ok (range.bad_limits bad e i) =
      absurd (subst (λ (z : Found). RefusesNothing z.answer) e ok)
  steps_reported bs steps varying old new f good ok (range.bad_steps at lim bad e i) =
      absurd (subst (λ (z : Found). RefusesNothing z.answer) e ok)
  steps_reported bs steps varying old new f good ok (range.range are t) =
      range.range are
      (message_reported bs f ok
      (λ m g a h. gets_range (λ i. path_after steps varying i) old new m g (kept f.answer g.answer a ok) h) good t)

  -- separate segments
  pub parts_reported : (ps : List (List ℕ)) (f : Found) → AreLimits k → RefusesNothing f.answer → FindsSegments l ps f
      → FindsSegments k ps f
  parts_reported ps f good ok (parts.bad_limits bad e) = absurd (subst (λ (z : Found). RefusesNothing z.answer) e ok)
  parts_reported ps f good ok (no_message are c h e) =
      absurd (segments_refuse c (subst (λ (z : Found). RefusesNothing z.answer) e ok))
  parts_reported ps f good ok (message are s g j e) =
      message good
      (record { some = s.some; few = s.few; whole = s.whole; within = omega (arith, s.within, more.size) })
      g (judged _ g (subst (λ (z : Found). RefusesNothing z.answer) e ok) j)
      (same_framed (8 * words_of_slices ps) (segments_in ps) f g e ok)

  -- the path to a pointer, and the earlier pointer of an overlap
  counted : (m : List (List ℕ)) (n : ℕ) (path : List Step) → IsNumberedPath m l.charge l.depth n path
      → IsNumberedPath m k.charge k.depth n path
  counted m n path c =
      record {
        traceable = record {
          segment = c.traceable.segment;
          at = c.traceable.at;
          numbered = c.traceable.numbered;
          passable = λ q b level s w r.
              let h = c.traceable.passable q b level s w r in
              (h.0, λ (x, t, v, y, tag, found, tagged, past). h.1 (x, t, v, y, tag, found, tagged, omega (arith, past, more.depth)));
        };
        within = omega (arith, c.within, more.charge);
      }

  pub pointer_found : (n : ℕ) (old new : List CallStep) (m : List (List ℕ)) (g : Found) → (g.answer ≡ answer.NoNode → ⊥)
      → FindsPointer n old new m l.charge l.depth g → FindsPointer n old new m k.charge k.depth g
  pointer_found n old new m g some (written path c fits e i) = written path (counted m n path c) fits e i
  pointer_found n old new m g some (too_small path c less e i) = too_small path (counted m n path c) less e i
  pointer_found n old new m g some (pointer.none missing e i) = absurd (some (ap (λ (z : Found). z.answer) e))

  pub earlier_found : (n : ℕ) (m : List (List ℕ)) (g : Found) → (g.answer ≡ answer.NoNode → ⊥)
      → FindsEarlierCall n m l.charge l.depth g → FindsEarlierCall n m k.charge k.depth g
  earlier_found n m g some (earlier path s w i c h e) = earlier path s w i (counted m n path c) h e
  earlier_found n m g some (earlier_call.none missing e) = absurd (some (ap (λ (z : Found). z.answer) e))

  -- calls that judge the message of an input, and of one that no bytes may follow
  pub judged_reported : {K : Type 0} {F : List (List ℕ) → Report → Found → Type 0} (bs : List ℕ) (f : Found)
      → AreInputLimits k → RefusesNothing f.answer
      → ReportsInput (not (allows_trailing l)) K (Judges (demands_of l) K F) l bs f
      → ReportsInput (not (allows_trailing k)) K (Judges (demands_of k) K F) k bs f
  judged_reported {K} {F} bs f good ok t =
      flags_reported {P = Judges (demands_of l) K F} {Q = Judges (demands_of k) K F} bs f ok
      (λ m g e h. judged m g (kept f.answer g.answer e ok) h) good t

  -- the call that also explains
  lines_found : (t u : Bool) (old : List ℕ) (n : ℕ) (new : List ℕ) (m : List (List ℕ)) (g : Found) → RefusesNothing g.answer
      → FindsLines t old n new (demands_of l) m l.charge l.depth g → FindsLines u old n new (demands_of k) m k.charge k.depth g
  lines_found t u old n new m g ok (lines.explained v h c r x e) =
      absurd (refusal_refuses v (subst (λ (z : Found). RefusesNothing z.answer) e ok))
  lines_found t u old n new m g ok (lines.accepted v h j e a b) = lines.accepted v (accepts m v h) (meets m j) e a b

  pub explained_reported : {K : Type 0} (old : List ℕ) (n : ℕ) (new : List ℕ) (bs : List ℕ) (f : Found) → AreInputLimits k
      → RefusesNothing f.answer
      → ReportsInput (not (allows_trailing l)) K (FindsLines (not (has_no_table l)) old n new (demands_of l)) l bs f
      → ReportsInput (not (allows_trailing k)) K (FindsLines (not (has_no_table k)) old n new (demands_of k)) k bs f
  explained_reported {K} old n new bs f good ok t =
      flags_reported {P = FindsLines (not (has_no_table l)) old n new (demands_of l)}
      {Q = FindsLines (not (has_no_table k)) old n new (demands_of k)} bs f ok
      (λ m g e h. lines_found (not (has_no_table l)) (not (has_no_table k)) old n new m g (kept f.answer g.answer e ok) h) good t

  pub alone_reported : {K : Type 0} {F : List (List ℕ) → Report → Found → Type 0} (bs : List ℕ) (f : Found)
      → AreInputLimits k → RefusesNothing f.answer → ReportsInput true K (Judges (demands_of l) K F) l bs f
      → ReportsInput true K (Judges (demands_of k) K F) k bs f
  alone_reported {K} {F} bs f good ok t =
      input_reported {P = Judges (demands_of l) K F} {Q = Judges (demands_of k) K F} bs f ok
      (λ m g e h. judged m g (kept f.answer g.answer e ok) h) true true (λ e. e) good t

  -- calls for which the limits of charge and depth have no effect
  pub frame_reported : {K : Type 0} {P : List (List ℕ) → Found → Type 0} (bs : List ℕ) (f : Found) → AreLimits k
      → RefusesNothing f.answer → ReportsCall K (λ m words depth g. P m g) l bs f → ReportsCall K (λ m words depth g. P m g) k bs f
  frame_reported {K} {P} bs f good ok t =
      reported {P = λ m words depth g. P m g} {Q = λ m words depth g. P m g} bs f ok (λ m g e h. h) good t

  pub packed_reported : {K : Type 0} {P : List (List ℕ) → Found → Type 0} (bs : List ℕ) (f : Found) → AreLimits k
      → RefusesNothing f.answer → ReportsWhole (not (allows_trailing l)) K (λ m words depth g. P m g) l bs f
      → ReportsWhole (not (allows_trailing k)) K (λ m words depth g. P m g) k bs f
  packed_reported {K} {P} bs f good ok t =
      message_reported {P = λ m words depth g. P m g} {Q = λ m words depth g. P m g} bs f ok (λ m g e h. h) good t

  -- calls for a pointer
  pub pointer_reported : (n : ℕ) (old new : List CallStep) (bs : List ℕ) (f : Found) → AreInputLimits k
      → RefusesNothing f.answer → (f.answer ≡ answer.NoNode → ⊥)
      → ReportsInput (not (allows_trailing l)) (new ≡ old) (FindsPointer n old new) l bs f
      → ReportsInput (not (allows_trailing k)) (new ≡ old) (FindsPointer n old new) k bs f
  pointer_reported n old new bs f good ok some t =
      flags_reported {P = FindsPointer n old new} {Q = FindsPointer n old new} bs f ok
      (λ m g e h. pointer_found n old new m g (λ z. some (e ∙ z)) h) good t

  pub earlier_reported : (n : ℕ) (bs : List ℕ) (f : Found) → AreInputLimits k → RefusesNothing f.answer
      → (f.answer ≡ answer.NoNode → ⊥) → ReportsInput (not (allows_trailing l)) ⊤ (FindsEarlierCall n) l bs f
      → ReportsInput (not (allows_trailing k)) ⊤ (FindsEarlierCall n) k bs f
  earlier_reported n bs f good ok some t =
      flags_reported {P = FindsEarlierCall n} {Q = FindsEarlierCall n} bs f ok
      (λ m g e h. earlier_found n m g (λ z. some (e ∙ z)) h) good t
