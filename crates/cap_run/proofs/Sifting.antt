-- How far the engine `run_filter` has come: the messages of a prefix of the stream were read and sifted.
use Rattle.cap_spec.proofs.Lemmas.{all_append, one_stream}
use Rattle.cap_spec.proofs.ProofNames.{Bool, Err, IsTrue, List, None, Ok, Result, Some, [], ap, append-nil}
use Rattle.cap_spec.proofs.ProofNames.{append_assoc, arith, false, inl, inr, length, length-append, refl, subst, sum}
use Rattle.cap_spec.proofs.ProofNames.{sym, true, ℕ, ◌++◌, ◌+◌, ◌<◌, ◌∙◌, ◌∷◌, ◌≡◌, ◌≢◌, ◌≤◌, ◌⊎◌, Appends-trans}
use Rattle.cap_spec.proofs.ProofNames.{false≢true, AllByRecursion, Stream, sizes_of, rules}
use Rattle.cap_frame.proofs.Converse.{same_some}
use Rattle.cap_vet.specs.VetNames.{words_under, depth_of, words_of, IsAccepted}
use Rattle.cap_walk.specs.declared.limits.Limits.{Limits}
use Rattle.cap_walk.specs.declared.report.Report.{Report}
use Rattle.cap_text.specs.Lines.{accepted_text}
use Rattle.cap_text.specs.Writing.{Stopped, Wrote}
use Rattle.cap_text.specs.declared.fault.Cause.TheVariants.{Output, Refused, Memory as no_marks}
use Rattle.cap_run.specs.Filtering.{AllAccepted, Covers, FiltersAll, FiltersUntil, LastAccepted, LastRefused, Logged}
use Rattle.cap_run.specs.Filtering.{Noted, Notes, PassesLast, ReportsMet, AllocatesMet, frame_in}
use Rattle.cap_run.specs.RunNames.{OutFault, Demands, Cause, Canon, Frame, NotStrict, TooManyMessages, RunFault}
use Rattle.cap_run.specs.RunNames.{IsStrictUnder, OrFaultIn, AllocatesIn, PassesOn, ReadsUntil, ReportsIn, AllocatesInForm}
use Rattle.cap_run.specs.RunNames.{Appended, RunStops, Settled, StopsIn, FindsRejection, SiftsNext, EndsStream}
use Rattle.cap_run.specs.RunNames.{ReadsStream, Reports, ReportsEach, Reported, messages_of, one_noncanonical, one_refused}
use Rattle.cap_run.specs.RunNames.{outcome_of, texts_of, Counted, Accepted, Outcome}
use Rattle.cap_run.specs.Sifting.{LogsMore, SiftStops, Sifts}
use Rattle.cap_run.specs.declared.engines.stream.Counted.TheVariants.{Refused as was_refused}
use Rattle.cap_run.specs.declared.settings.FilterForm.{FilterForm}
use Rattle.cap_run.proofs.Going.{appended_none, stops_in}
use Rattle.cap_run.proofs.Settling.{on_known, reads_front, settled_after}
use Rattle.cap_run.proofs.Streams.{reads_all, reads_both, reads_none}
use Rattle.cap_run.proofs.Reporting.{each-snoc, messages_of-snoc, noncanonical_in_le, outcome_of-snoc, refused_in_le}
use Rattle.cap_run.proofs.Reporting.{texts_of-snoc}
use Rattle.cap_words.specs.declared.byte_io.ByteOut as output
use Rattle.cap_words.specs.declared.sources.WordSource as source

module _ {O : Type 0} (g : output.Ghosts O) where
  -- what was written without an error
  pub wrote_appended : (a b : O) (text : List ℕ) → Wrote g a b text → Appended g a b text
  wrote_appended a b text w = record { appended = w.appended; broken = w.works.still ∙ sym w.works.usable; failures = w.works.none_failed }

  -- some texts, and then others
  pub appended_both : (a b c : O) (xs ys : List ℕ) → Appended g a b xs → Appended g b c ys → Appended g a c (xs ++ ys)
  appended_both a b c xs ys p q = search (rules, Appends-trans)

  -- a fault in a text after others is one in all of it
  stops_whole : (a b : O) (fault : OutFault) (xs ys : List ℕ) → StopsIn g a b fault xs ys → StopsIn g a b fault [] (xs ++ ys)
  stops_whole a b fault xs ys s = search (rules, append_assoc)

  -- or the log failed in it
  pub logged_stops : (first old new : O) (text line : List ℕ) (failed : Bool) (fault : OutFault) → failed ≡ false
      → Logged g first old text failed → Stopped g old new fault line → Logged g first new (text ++ line) true
  logged_stops first old new text line x6 fault e l s = search (rules, stops_whole, stops_in, false≢true)

module _ (form : FilterForm) (demands : Demands) (limits : Limits) (m : List (List ℕ)) where
  -- one that meets them is accepted
  pub finds_met : (report : Report) → form.exclusive ≡ false → IsStrictUnder demands m (words_of limits) (depth_of limits)
      → IsAccepted m (words_under demands m (words_of limits)) (depth_of limits) report
      → FindsRejection (ReportsIn form demands limits) (AllocatesInForm form demands limits) m (Ok None)
  finds_met report e strict accepted =
      subst (λ (x : Bool). FindsRejection (OrFaultIn demands (ReportsMet x) limits) (AllocatesIn demands (AllocatesMet x) limits) m (Ok None)) (sym e)
      (λ n. (accepted_text n report, inl (strict, record { report = report; is_accepted = accepted; line = refl; counts = refl })))

module _ {O E : Type 0} (go : output.Ghosts O) (ge : output.Ghosts E) (pack : Bool) (verdict : Reports) (allocates : List (List ℕ) → Type 0) (n : ℕ)
    (m : List (List ℕ)) where
  -- nothing goes to the log of an accepted message
  pub sifts_passed : (before after : O) (log : E) (failed waits stays : Bool) → (said : List ℕ) × verdict n m said Accepted
      → Wrote go before after (frame_in pack m) → Sifts go ge pack verdict allocates n m before after log log failed failed waits stays (Ok Accepted)
  sifts_passed before after log failed waits stays x7 w = search (rules, wrote_appended, append-nil)

  -- the output failed in its frame
  pub sifts_stopped : (before after : O) (log : E) (failed waits stays : Bool) (fault : OutFault) → (said : List ℕ) × verdict n m said Accepted
      → Stopped go before after fault (frame_in pack m)
      → Sifts go ge pack verdict allocates n m before after log log failed failed waits stays (Err (Output fault))
  sifts_stopped before after log failed waits stays fault (said, v) s = (frame_in pack m, Accepted, inl refl, (said, v, refl), s, (refl, refl))

  -- or in a flush before the line of a refused one
  pub sifts_unflushed : (before after : O) (log : E) (failed waits stays : Bool) (fault : OutFault) (said : List ℕ)
      → verdict n m said was_refused → IsTrue waits × Stopped go before after fault []
      → Sifts go ge pack verdict allocates n m before after log log failed failed waits stays (Err (Output fault))
  sifts_unflushed before after log failed waits stays fault said v (w, s) = ([], was_refused, inr w, (said, v, refl), s, (refl, refl))

  -- nothing goes to the output of a refused one
  pub sifts_refused : (before after : O) (old new : E) (failed fails waits : Bool) (said : List ℕ) → verdict n m said was_refused
      → Appended go before after [] → LogsMore ge old new failed fails said
      → Sifts go ge pack verdict allocates n m before after old new failed fails waits false (Ok was_refused)
  sifts_refused before after old new failed fails waits said v a l = ([], said, (said, v, refl), (said, v, refl), a, l, λ e. absurd (false≢true e))

module _ {S O E : Type 0} (gs : source.Ghosts S) (go : output.Ghosts O) (ge : output.Ghosts E) (pack : Bool) (verdict : Reports)
    (allocates : List (List ℕ) → Type 0) (limit n : ℕ) (old new : S) (before after : O) (first last : E) (failed fails waits stays : Bool) where
  -- a message was read, and no more came of it
  pub sift_stopped : (cause : Cause)
      → SiftsNext gs go ge pack verdict allocates limit n old new before after first last failed fails waits stays (Err cause)
      → SiftStops gs go ge pack verdict allocates limit n old new before after first last failed fails waits stays cause
  sift_stopped x1 q = search rules

-- what isn't refused is accepted
pub passed_accepted : (pack : Bool) (verdict : Reports) (n : ℕ) (m : List (List ℕ)) (text : List ℕ) (counted : Counted)
    → PassesOn pack verdict n m text counted → counted ≢ was_refused → counted ≡ Accepted
passed_accepted pack verdict n m text k p h = search rules

module _ {S O E : Type 0} (gs : source.Ghosts S) (go : output.Ghosts O) (ge : output.Ghosts E) (form : FilterForm) (verdict : Reports)
    (allocates : List (List ℕ) → Type 0) (limit : ℕ) where
  -- this many messages were read and sifted
  pub record Sifting (old new : S) (before after : O) (first last : E) (outcome : Outcome) (number : ℕ) (failed : Bool) : Type 0 where
    pub ts : List Reported
    pub us : List Reported
    pub many : length ts ≡ number
    pub long : length us ≡ number
    pub counts : outcome ≡ outcome_of ts
    pub reads : ReadsStream gs limit old new (messages_of ts)
    pub each : ReportsEach (PassesOn form.pack verdict) 0 ts
    pub appended : Appended go before after (texts_of ts)
    pub same : messages_of us ≡ messages_of ts
    pub notes : ReportsEach (Notes verdict) 0 us
    pub logged : Logged ge first last (texts_of us) failed

  -- one more
  sifting_more : (old mid new : S) (before between after : O) (first held last : E) (outcome next : Outcome) (number : ℕ)
      (failed fails waits stays : Bool) (counted : Counted) → (w : Sifting old mid before between first held outcome number failed)
      → SiftsNext gs go ge form.pack verdict allocates limit number mid new between after held last failed fails waits stays (Ok counted)
      → next ≡ record {
        messages = outcome.messages + 1;
        refused = outcome.refused + one_refused counted;
        noncanonical = outcome.noncanonical + one_noncanonical counted;
      }
      → (v : Sifting old new before after first last next (number + 1) fails)
      × ((t : Reported) × (t.counted ≡ counted) × (v.ts ≡ w.ts ++ t ∷ []))
  sifting_more old mid new before between after first held last outcome next number failed fails waits stays counted w
      (m, reads, (text, line, p, n, wrote, logs, waiting)) counts =
      let t : Reported = record { message = m; text = text; counted = counted } in
      let u : Reported = record { message = m; text = line; counted = counted } in
      let v : Sifting old new before after first last next (number + 1) fails = record {
        ts = w.ts ++ t ∷ [];
        us = w.us ++ u ∷ [];
        many = length-append w.ts (t ∷ []) ∙ ap (λ (k : ℕ). k + 1) w.many;
        long = length-append w.us (u ∷ []) ∙ ap (λ (k : ℕ). k + 1) w.long;
        counts = counts ∙ outcome_of-snoc w.ts t outcome w.counts;
        reads = rw (messages_of-snoc w.ts t) (reads_both gs limit old mid new (messages_of w.ts) (m ∷ []) w.reads reads);
        each = each-snoc (PassesOn form.pack verdict) 0 w.ts t w.each
            (subst (λ (k : ℕ). PassesOn form.pack verdict k m text counted) (sym w.many ∙ omega arith) p);
        appended = rw (texts_of-snoc w.ts t) (appended_both go before between after (texts_of w.ts) text w.appended wrote);
        same = messages_of-snoc w.us u ∙ (ap (λ (ms : List (List (List ℕ))). ms ++ m ∷ []) w.same ∙ sym (messages_of-snoc w.ts t));
        notes = each-snoc (Notes verdict) 0 w.us u w.notes (subst (λ (k : ℕ). Notes verdict k m line counted) (sym w.long ∙ omega arith) n);
        logged = rw (texts_of-snoc w.us u) (logs first (texts_of w.us) w.logged);
      } in
      (v, (t, refl, refl))

  -- what the log has of them
  noted : (old new : S) (before after : O) (first last : E) (outcome : Outcome) (number : ℕ) (failed : Bool)
      (w : Sifting old new before after first last outcome number failed) → Noted ge verdict (messages_of w.ts) first last
  noted old new before after first last outcome number failed w = search rules

  -- this many messages were read and sifted, and if it stops at a refused one, all were accepted
  pub record Sieving (old new : S) (before after : O) (first last : E) (outcome : Outcome) (number : ℕ) (failed waits : Bool) : Type 0 where
    pub sifting : Sifting old new before after first last outcome number failed
    pub accepted : IsTrue form.stop → AllAccepted sifting.ts
    -- only the frame of an accepted message waits
    pub waiting : IsTrue waits → LastAccepted sifting.ts

  -- the messages that were read begin a stream that is known
  covers : (old new : S) (own : List ℕ) (ms : List (List (List ℕ))) (ts : List Reported) → gs.words old ≡ Some own → Stream own ms
      → ReadsUntil gs form.stop limit old new ts → Covers form.stop ts ms
  covers old new own ms ts w s (inl (reads, accepted)) =
      let all = on_known (gs.words old) own _ w reads.all in
      let same = same_some own reads.own (sym w ∙ all.0) in
      inl (one_stream own (messages_of ts) ms (subst (λ (ws : List ℕ). Stream ws (messages_of ts)) (sym same) reads.stream) s, accepted)
  covers old new own ms ts w s (inr (stop, last, reads)) = search (rules, reads_front gs limit old new new (messages_of ts) own ms w s reads)

  -- a stream of messages within the limits is read to its end, or to the first that is refused
  pub filter_settled : (most : ℕ) (old new : S) (before after : O) (first last : E) (r : Result Outcome RunFault) (own : List ℕ)
      (ms : List (List (List ℕ))) → FiltersAll gs go ge form verdict allocates limit most old new before after first last r
      → FiltersUntil gs go ge form verdict allocates limit most old new before after first last r → gs.words old ≡ Some own
      → gs.is_cut old ≡ false → Stream own ms → AllByRecursion (λ m. sum (sizes_of m) ≤ limit) ms → length ms ≤ most
      → Settled r ((ts : List Reported) × Covers form.stop ts ms × ReportsEach (PassesOn form.pack verdict) 0 ts
      × Appended go before after (texts_of ts) × (r ≡ Ok (outcome_of ts)) × Noted ge verdict (messages_of ts) first last)
  filter_settled most old new before after first last (Ok outcome) own ms end fault w c s l few = search (rules, covers)
  filter_settled most old new before after first last (Err fault) own ms end f w c s l few = search (rules, settled_after)

module _ {S O E : Type 0} {gs : source.Ghosts S} {go : output.Ghosts O} {ge : output.Ghosts E} {form : FilterForm} {verdict : Reports}
    {allocates : List (List ℕ) → Type 0} {limit : ℕ} where
  -- none yet
  pub sieving_none : {s : S} {o : O} {e : E} {failed waits : Bool} → failed ≡ false → waits ≡ false
      → Sieving gs go ge form verdict allocates limit s s o o e e (record { messages = 0; refused = 0; noncanonical = 0 }) 0 failed waits
  sieving_none {s} {o} {e} not_failed none_wait = rw (not_failed, none_wait) record {
    sifting = record {
      ts = [];
      us = [];
      many = refl;
      long = refl;
      counts = refl;
      reads = reads_none gs limit s;
      each = tt;
      appended = appended_none go o;
      same = refl;
      notes = tt;
      logged = appended_none ge e;
    };
    accepted = λ e. tt;
    waiting = λ e. absurd (false≢true e);
  }

  module _ {old mid : S} {before between : O} {first held : E} {outcome : Outcome} {number : ℕ} {failed waits : Bool}
      (s : Sieving gs go ge form verdict allocates limit old mid before between first held outcome number failed waits) where
    -- no more were refused than there were
    pub sieving_refused : outcome.refused ≤ outcome.messages
    sieving_refused = rw s.sifting.counts (refused_in_le s.sifting.ts)

    -- no more weren't canonical than there were
    pub sieving_noncanonical : outcome.noncanonical ≤ outcome.messages
    sieving_noncanonical = rw s.sifting.counts (noncanonical_in_le s.sifting.ts)

    module _ (new : S) (after : O) (last : E) (next : Outcome) (fails stays : Bool) (counted : Counted)
        (q : SiftsNext gs go ge form.pack verdict allocates limit number mid new between after held last failed fails waits stays (Ok counted))
        (counts : next ≡ record {
          messages = outcome.messages + 1;
          refused = outcome.refused + one_refused counted;
          noncanonical = outcome.noncanonical + one_noncanonical counted;
        }) where
      -- one more, after which it goes on
      pub sieving_more : (IsTrue form.stop → counted ≢ was_refused)
          → Sieving gs go ge form verdict allocates limit old new before after first last next (number + 1) fails stays
      sieving_more h =
          let v = sifting_more gs go ge form verdict allocates limit old mid new before between after first held last outcome next number
          failed fails waits stays counted s.sifting q counts in
          let is : IsTrue form.stop → counted ≡ Accepted =
          λ e. passed_accepted form.pack verdict number q.0 q.2.0 counted q.2.2 (h e) in
          record {
            sifting = v.0;
            accepted = λ e. subst AllAccepted (sym v.1.2)
                (all_append (λ (t : Reported). t.counted ≡ Accepted) s.sifting.ts (v.1.0 ∷ []) (s.accepted e) (v.1.1 ∙ is e, tt));
            waiting = λ e. record { front = s.sifting.ts; last = v.1.0; whole = v.1.2; accepted = v.1.1 ∙ q.2.6 e };
          }

      -- or it ends after it
      pub sieving_last : (most : ℕ) → number < most → IsTrue form.stop × (counted ≡ was_refused)
          → FiltersAll gs go ge form verdict allocates limit most old new before after first last (Ok next)
      sieving_last most h (e, r) =
          let v = sifting_more gs go ge form verdict allocates limit old mid new before between after first held last outcome next number
          failed fails waits stays counted s.sifting q counts in
          let last_one : LastRefused v.0.ts =
          record { front = s.sifting.ts; last = v.1.0; whole = v.1.2; accepted = s.accepted e; refused = v.1.1 ∙ r } in (
            v.0.ts,
            inr (e, last_one, v.0.reads),
            v.0.each,
            v.0.appended,
            omega (arith, v.0.many),
            v.0.counts,
            noted gs go ge form verdict allocates limit old new before after first last next (number + 1) fails v.0,
          )

    -- the stream ended after them
    pub sieving_done : (new : S) (most : ℕ) → number ≤ most → EndsStream gs mid new
        → FiltersAll gs go ge form verdict allocates limit most old new before between first held (Ok outcome)
    sieving_done new most h e = search (rules, reads_all, noted gs go ge form verdict allocates limit)

    -- it ended at the next message
    pub sieving_stops : (new : S) (after : O) (last : E) (fails stays : Bool) (most : ℕ) (cause : Cause) → number < most
        → SiftStops gs go ge form.pack verdict allocates limit number mid new between after held last failed fails waits stays cause
        → FiltersUntil gs go ge form verdict allocates limit most old new before after first last (Err (record { message = number; cause = cause }))
    sieving_stops new after last fails stays most cause h q =
        let w = s.sifting in
        let p = stops cause q in
        (w.ts, mid, sym w.many, omega (arith, w.many), w.reads, w.each, s.accepted, p.0, p.1)
      where
        keeps : last ≡ held → Noted ge verdict (messages_of s.sifting.ts) first last
        keeps e = subst (Noted ge verdict (messages_of s.sifting.ts) first) (sym e)
            (noted gs go ge form verdict allocates limit old mid before between first held outcome number failed s.sifting)

        late : (counted : Counted) → (counted ≡ Accepted) ⊎ IsTrue waits → (counted ≡ Accepted) ⊎ LastAccepted s.sifting.ts
        late counted (inl a) = inl a
        late counted (inr w) = inr (s.waiting w)

        stops : (cause : Cause) → SiftStops gs go ge form.pack verdict allocates limit number mid new between after held last failed fails waits stays cause
            → RunStops gs go (PassesLast form.pack verdict s.sifting.ts) allocates limit most s.sifting.ts mid new before after cause
            × Noted ge verdict (messages_of s.sifting.ts) first last
        stops TooManyMessages q = absurd q
        stops (Frame fault) (f, o, e, b) = ((rw o s.sifting.appended, f), keeps e)
        stops (Output fault) (m, reads, (text, counted, l, p, z, (e, b))) = (
          (
            record { message = m; text = text; counted = counted },
            omega (arith, s.sifting.many),
            (late counted l, subst (λ (k : ℕ). PassesOn form.pack verdict k m text counted) (sym s.sifting.many) p),
            reads,
            stops_in go before between after fault (texts_of s.sifting.ts) text s.sifting.appended z,
          ),
          keeps e,
        )
        stops (Refused refusal) q = absurd q
        stops (NotStrict fault) q = absurd q
        stops (Canon fault) q = absurd q
        stops no_marks (m, reads, (want, o, (e, b))) =
            ((omega (arith, s.sifting.many), rw o s.sifting.appended, (m, reads, want)), keeps e)
