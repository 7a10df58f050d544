-- What a job did, and what it did whose status is that of success.
use Rattle.cap_spec.specs.declared.CanonFault.TheVariants.{HasCapability, Memory as canon_memory}
use Rattle.cap_spec.proofs.ProofNames.{Bool, Err, List, None, Ok, Option, Result, Some, [], ap, arith, false, inl, inr}
use Rattle.cap_spec.proofs.ProofNames.{length, refl, subst, sym, true, ℕ, ◌∙◌, ◌∷◌, ◌≡◌, ◌≤◌, Appends, Keeps, append_known}
use Rattle.cap_spec.proofs.ProofNames.{pack_text, plain_text}
use Rattle.cap_words.specs.declared.vec_out.VecOut.{VecOut}
use Rattle.cap_words.specs.declared.sources.SourceFault.TheVariants.{Device as source_device, Spent as source_broken}
use Rattle.cap_words.specs.declared.sources.SourceFault.TheVariants.{Truncated as source_truncated}
use Rattle.cap_frame.specs.Limit.{limit_of}
use Rattle.cap_frame.specs.declared.fault.FrameFault.{FrameFault}
use Rattle.cap_frame.specs.declared.fault.FrameFault.TheVariants.{Device, Memory, Spent, TooLarge, TooManySegments}
use Rattle.cap_frame.specs.declared.fault.FrameFault.TheVariants.{Truncated}
use Rattle.cap_walk.specs.Demands.{no_demands}
use Rattle.cap_walk.specs.Limits.{depth_of, words_of}
use Rattle.cap_walk.specs.declared.demands.Demands.{Demands}
use Rattle.cap_text.specs.declared.fault.Cause.{Cause}
use Rattle.cap_text.specs.declared.fault.Cause.TheVariants.{Canon, Frame, NotStrict, Output, Refused, TooManyMessages}
use Rattle.cap_text.specs.declared.fault.Cause.TheVariants.{Memory as no_marks}
use Rattle.cap_text.specs.declared.fault.CopyFault.{CopyFault}
use Rattle.cap_text.specs.declared.fault.CopyFault.TheVariants.{Source, TooManyWords, Output as copy_output}
use Rattle.cap_text.specs.declared.fault.ExplainedFault.{ExplainedFault}
use Rattle.cap_text.specs.declared.fault.RunFault.{RunFault}
use Rattle.cap_text.specs.declared.fault.SingleFault.{SingleFault}
use Rattle.cap_text.specs.declared.fault.SingleFault.TheVariants.{NoMessage, Run, Trailing}
use Rattle.cap_run.specs.Breaking.{run_answer}
use Rattle.cap_run.specs.Engines.{ReportsPlaced}
use Rattle.cap_run.specs.Reporting.{PlacedReports, ReportsFrom}
use Rattle.cap_run.specs.Filtering.{FiltersStream}
use Rattle.cap_run.specs.Hashing.{AllocatesCopyUnder, ReportsDigestUnder, ReportsHashUnder}
use Rattle.cap_run.specs.ExplainedJson.{OrFaultExplained, ReportsAcceptedObject, ReportsExclusivenessExplained}
use Rattle.cap_run.specs.JsonReports.{OrFaultJson, ReportsAcceptedJson, ReportsCheckedJson, ReportsHashedJson, ReportsExclusivenessJson}
use Rattle.cap_run.specs.Single.{ReadsSingle, padded_frame}
use Rattle.cap_run.specs.Streams.{EndsStream}
use Rattle.cap_run.specs.RunNames.{copies_of, ReportsCheckUnder, ReportsDumpUnder, ReportsExclusiveUnder, ReportsGetUnder}
use Rattle.cap_run.specs.RunNames.{ReportsVerdictUnder, AllocatesMarksUnder, ReportsStream, most_packed_at_once, most_transcoded}
use Rattle.cap_run.specs.RunNames.{most_unpacked_at_once, ReportsExplainedExclusiveUnder, ReportsExplainedUnder, PassesOn}
use Rattle.cap_run.specs.RunNames.{ReportsIn, AllocatesInForm, Appended, ReadsToEnd, Reports, ReportsEach, ReportsSegments, Reported}
use Rattle.cap_run.specs.RunNames.{AllocatesNone, messages_of, outcome_of, texts_of, Transcoded, TranscodesAll}
use Rattle.cap_run.specs.declared.settings.FilterForm.{FilterForm}
use Rattle.cap_run.specs.declared.settings.Outcome.{Outcome}
use Rattle.cap_run.specs.declared.settings.Settings.{Settings}
use Rattle.cap_run.proofs.FilterEnds.{reads_whole}
use Rattle.cap_run.proofs.Streams.{reads_all}
use Rattle.cap_cmd.specs.Jobs.{CanonsInput, CanonsTo, DoesFirst, DoesJob, DoesOne, DoesTask, DoesUnder, EndsOne, ExitsFirst, PlacesInput, WritesReports, TranscodesInput, TranscodesTo}
use Rattle.cap_cmd.specs.Jobs.{WritesAll, WritesInput, WritesOne, WritesUnder, input_is_cut, input_words}
use Rattle.cap_cmd.specs.Statuses.{cause_status, frame_status, outcome_status, run_status, single_status, transcode_status}
use Rattle.cap_cmd.specs.declared.jobs.Job.{Job}
use Rattle.cap_cmd.specs.declared.jobs.JsonReport.TheVariants as report
use Rattle.cap_cmd.specs.declared.jobs.Task.{Task}
use Rattle.cap_cmd.specs.declared.jobs.Task.TheVariants as task
use Rattle.cap_cmd.specs.declared.jobs.Work.{Work}
use Rattle.cap_cmd.specs.declared.jobs.Work.TheVariants as work
use Rattle.cap_words.specs.declared.byte_io.ByteIn as input
use Rattle.cap_words.specs.declared.byte_io.ByteOut as output
use Rattle.cap_words.specs.declared.sinks.WordSink as sink
use Rattle.cap_words.specs.declared.sources.WordSource as source

-- bytes that are what others and a text were are those others, continued by the text
kept_appends : (a b : Option (List ℕ)) (text : List ℕ) → Keeps (append_known a text) b → Appends a b text
kept_appends None b text k = tt
kept_appends (Some xs) None text k = absurd k
kept_appends (Some xs) (Some ys) text k = k

module _ {S K : Type 0} (gs : source.Ghosts S) (gk : sink.Ghosts K) (at_once most : ℕ)
    (old new : S) (before after : K) where
  -- a copy with the status of success put all words
  copied_all : (r : Result ℕ CopyFault) → transcode_status r ≡ 0 → Transcoded gs gk at_once most old new before after r
      → (put : List ℕ) × TranscodesAll gs gk most old new before after put
  copied_all (Ok n) e c = (c.0, c.2)
  copied_all (Err TooManyWords) e c = absurd (cc)
  copied_all (Err (Source (source_truncated byte))) e c = absurd (cc)
  copied_all (Err (Source source_device)) e c = absurd (cc)
  copied_all (Err (Source source_broken)) e c = absurd (cc)
  copied_all (Err (copy_output fault)) e c = absurd (cc)

-- no fault has that status
frame_fails : (fault : FrameFault) → frame_status fault ≡ 0 → ⊥
frame_fails (TooManySegments n) e = cc
frame_fails (TooLarge n) e = cc
frame_fails (Truncated n) e = cc
frame_fails Device e = cc
frame_fails Memory e = cc
frame_fails Spent e = cc

cause_fails : (cause : Cause) → cause_status cause ≡ 0 → ⊥
cause_fails TooManyMessages e = cc
cause_fails (Frame fault) e = frame_fails fault e
cause_fails (Output fault) e = cc
cause_fails (Refused refusal) e = cc
cause_fails (NotStrict fault) e = cc
cause_fails (Canon (HasCapability s w)) e = cc
cause_fails (Canon canon_memory) e = cc
cause_fails no_marks e = cc

single_fails : (fault : SingleFault) → single_status fault ≡ 0 → ⊥
single_fails NoMessage e = cc
single_fails (Trailing byte) e = cc
single_fails (Run fault) e = cause_fails fault.cause e

-- with it no message was refused
none_refused : (o : Outcome) → outcome_status o ≡ 0 → o.refused ≡ 0
none_refused o e = grind (arith, e)

-- and none wasn't canonical
none_noncanonical : (o : Outcome) → outcome_status o ≡ 0 → o.noncanonical ≡ 0
none_noncanonical o e = grind (arith, e)

module _ {S O : Type 0} (gs : source.Ghosts S) (go : output.Ghosts O) (s : Settings) (old new : S) where
  -- no message of these was refused, and each is canonical where that was asked
  all_reported : (each : List Reported → Type 0) (before after : O) (o : Outcome) (ts : List Reported) → outcome_status o ≡ 0 → o ≡ outcome_of ts
      → ReadsToEnd gs (limit_of s.size) old new (messages_of ts) → each ts
      → Appended go before after (texts_of ts) → length ts ≤ s.messages
      → WritesInput each s (gs.words old) (gs.is_cut old) (go.written before) (go.written after)
  all_reported each before after o ts e same reads reported took many = record {
    own = reads.own;
    all = reads.all;
    ts = ts;
    stream = reads.stream;
    within = reads.within;
    many = many;
    reported = reported;
    accepted = none_refused (outcome_of ts) (subst (λ (x : Outcome). outcome_status x ≡ 0) same e);
    canonical = none_noncanonical (outcome_of ts) (subst (λ (x : Outcome). outcome_status x ≡ 0) same e);
    appended = took.appended;
  }

  -- all messages were accepted
  reported_all : (reports : Reports) (allocates : List (List ℕ) → Type 0) (before after : O) (r : Result Outcome RunFault)
      → run_status r ≡ 0 → ReportsStream gs go reports allocates (limit_of s.size) s.messages old new before after r
      → WritesReports reports s (gs.words old) (gs.is_cut old) (go.written before) (go.written after)
  reported_all reports allocates before after (Ok o) e t =
      let k = t.ok in all_reported (ReportsEach reports 0) before after o k.0 e k.5 k.1 k.2 k.3 k.4
  reported_all reports allocates before after (Err fault) e t = absurd (cause_fails fault.cause e)

  -- the same by where each begins
  placed_all : (reports : PlacedReports) (allocates : List (List ℕ) → Type 0) (before after : O) (r : Result Outcome RunFault)
      → run_status r ≡ 0 → ReportsPlaced gs go reports allocates (limit_of s.size) s.messages old new before after r
      → PlacesInput reports s (gs.words old) (gs.is_cut old) (go.written before) (go.written after)
  placed_all reports allocates before after (Ok o) e t =
      let k = t.ok in all_reported (ReportsFrom reports 0 0) before after o k.0 e k.5 k.1 k.2 k.3 k.4
  placed_all reports allocates before after (Err fault) e t = absurd (cause_fails fault.cause e)

  -- all messages went on
  passed_all : {E : Type 0} (ge : output.Ghosts E) (form : FilterForm) (verdict : Reports)
      (allocates : List (List ℕ) → Type 0) (before after : O) (first last : E)
      (r : Result Outcome RunFault) → run_status r ≡ 0
      → FiltersStream gs go ge form verdict allocates (limit_of s.size) s.messages old new before after first last r
      → WritesReports (PassesOn form.pack verdict) s (gs.words old) (gs.is_cut old) (go.written before) (go.written after)
  passed_all ge form verdict allocates before after first last (Ok o) e t =
      let k = t.ok in
      let none = none_refused (outcome_of k.0) (subst (λ (x : Outcome). outcome_status x ≡ 0) k.5 e) in
      all_reported (ReportsEach (PassesOn form.pack verdict) 0) before after o k.0 e k.5 (reads_whole gs (limit_of s.size) old new form.stop k.0 none k.1) k.2 k.3 k.4
  passed_all ge form verdict allocates before after first last (Err fault) e t = absurd (cause_fails fault.cause e)

module _ {S O K : Type 0} (gs : source.Ghosts S) (go : output.Ghosts O) (s : Settings) (old new : S)
    (gk : sink.Ghosts K) where
  -- all words were copied
  all_copied : (text : List ℕ → List ℕ) (at_once : ℕ) (before after : O) (r : Result ℕ CopyFault)
      → transcode_status r ≡ 0
      → TranscodesTo gs go gk text at_once old new before after r
      → TranscodesInput text (gs.words old) (gs.is_cut old) (go.written before) (go.written after)
  all_copied text at_once before after r e p =
      let k = copied_all gs gk at_once most_transcoded old new p.begun p.ended r e p.puts.copied in
      let kept = subst (λ (o : Option (List ℕ)). Keeps o (gk.taken p.ended)) (p.begins.empty k.0) k.1.finishes.finished in
      record {
        own = k.0;
        all = k.1.all;
        few = k.1.few;
        appended = subst (λ o. Appends (go.written before) o (text k.0)) p.gives.taken
            (kept_appends (go.written before) (gk.taken p.ended) (text k.0) kept);
      }

  -- all copies were put
  all_made : (demands : Demands) (before after : O) (r : Result Outcome RunFault) → run_status r ≡ 0
      → CanonsTo gs go gk s demands old new before after r
      → CanonsInput s demands (gs.words old) (gs.is_cut old) (go.written before) (go.written after)
  all_made demands before after (Ok o) e p =
      let k = p.puts.ok in
      let text = plain_text (copies_of k.0) in
      let kept = subst (λ (o : Option (List ℕ)). Keeps o (gk.taken p.ended)) (p.begins.empty (copies_of k.0)) k.3.finished in
      record {
        own = k.1.own;
        all = k.1.all;
        cs = k.0;
        stream = k.1.stream;
        within = k.1.within;
        many = k.4;
        each = k.2;
        appended = subst (λ o. Appends (go.written before) o text) p.gives.taken
            (kept_appends (go.written before) (gk.taken p.ended) text kept);
      }
  all_made demands before after (Err fault) e p = absurd (cause_fails fault.cause e)

module _ {S O E U : Type 0} (gs : source.Ghosts S) (go : output.Ghosts O) (ge : output.Ghosts E)
    (gu : sink.Ghosts U) where
  -- what work under demands with the status of success wrote
  writes_under : (demands : Demands) (w : Work) (packed : Bool) (s : Settings) (first : S) (before after : O) (old new : E)
      (status : ℕ) → status ≡ 0
      → DoesUnder gs go ge gu demands w packed s first before after old new status
      → WritesUnder demands w packed s (gs.words first) (gs.is_cut first) (go.written before) (go.written after)
  writes_under demands (work.Vet false) packed s first before after old new status e d =
      reported_all gs go s first d.last (ReportsVerdictUnder demands (words_of s.limits) (depth_of s.limits)) AllocatesNone
      before after d.answer (sym d.exited.status_is ∙ e) d.does
  writes_under demands (work.Vet true) packed s first before after old new status e d =
      reported_all gs go s first d.last (ReportsExclusiveUnder demands (words_of s.limits) (depth_of s.limits))
      (AllocatesMarksUnder demands (words_of s.limits) (depth_of s.limits)) before after d.answer
      (sym d.exited.status_is ∙ e) d.does
  writes_under demands (work.Explain false canonical) packed s first before after old new status e d =
      placed_all gs go s first d.last (ReportsExplainedUnder packed canonical demands (words_of s.limits) (depth_of s.limits)) AllocatesNone
      before after (run_answer d.answer) (sym d.exited.status_is ∙ e) d.does.reported
  writes_under demands (work.Explain true canonical) packed s first before after old new status e d =
      placed_all gs go s first d.last (ReportsExplainedExclusiveUnder packed canonical demands (words_of s.limits) (depth_of s.limits))
      (AllocatesMarksUnder demands (words_of s.limits) (depth_of s.limits)) before after (run_answer d.answer)
      (sym d.exited.status_is ∙ e) d.does.reported
  writes_under demands (work.Filter form) packed s first before after old new status e d =
      passed_all gs go s first d.1.last ge form (ReportsIn form demands s.limits) (AllocatesInForm form demands s.limits)
      before after old d.0 d.1.answer (sym d.1.exited.status_is ∙ e) d.1.does
  writes_under demands work.Dump packed s first before after old new status e d =
      reported_all gs go s first d.last (ReportsDumpUnder demands (words_of s.limits) (depth_of s.limits)) AllocatesNone
      before after d.answer (sym d.exited.status_is ∙ e) d.does
  writes_under demands (work.Get path) packed s first before after old new status e d =
      reported_all gs go s first d.last (ReportsGetUnder demands (words_of s.limits) (depth_of s.limits) path.items)
      AllocatesNone before after d.answer (sym d.exited.status_is ∙ e) d.does
  writes_under demands work.Check packed s first before after old new status e d =
      reported_all gs go s first d.last (ReportsCheckUnder demands (words_of s.limits) (depth_of s.limits)) AllocatesNone
      before after d.answer (sym d.exited.status_is ∙ e) d.does
  writes_under demands work.Canon packed s first before after old new status e d =
      all_made gs go s first d.last gu demands before after d.answer (sym d.exited.status_is ∙ e) d.does
  writes_under demands (work.Hash false) packed s first before after old new status e d =
      reported_all gs go s first d.last (ReportsHashUnder demands (words_of s.limits) (depth_of s.limits))
      (AllocatesCopyUnder demands (words_of s.limits) (depth_of s.limits)) before after d.answer
      (sym d.exited.status_is ∙ e) d.does
  writes_under demands (work.Hash true) packed s first before after old new status e d =
      reported_all gs go s first d.last (ReportsDigestUnder demands (words_of s.limits) (depth_of s.limits))
      (AllocatesCopyUnder demands (words_of s.limits) (depth_of s.limits)) before after d.answer
      (sym d.exited.status_is ∙ e) d.does
  writes_under demands (work.Json (report.Vet false)) packed s first before after old new status e d =
      reported_all gs go s first d.last (OrFaultJson demands ReportsAcceptedJson s.limits) AllocatesNone before after d.answer
      (sym d.exited.status_is ∙ e) d.does
  writes_under demands (work.Json (report.Vet true)) packed s first before after old new status e d =
      reported_all gs go s first d.last (OrFaultJson demands ReportsExclusivenessJson s.limits)
      (AllocatesMarksUnder demands (words_of s.limits) (depth_of s.limits)) before after d.answer
      (sym d.exited.status_is ∙ e) d.does
  writes_under demands (work.Json (report.Explain false canonical)) packed s first before after old new status e d =
      placed_all gs go s first d.last (OrFaultExplained demands (ReportsAcceptedObject canonical) s.limits) AllocatesNone
      before after (run_answer d.answer) (sym d.exited.status_is ∙ e) d.does.reported
  writes_under demands (work.Json (report.Explain true canonical)) packed s first before after old new status e d =
      placed_all gs go s first d.last (OrFaultExplained demands (ReportsExclusivenessExplained canonical) s.limits)
      (AllocatesMarksUnder demands (words_of s.limits) (depth_of s.limits)) before after (run_answer d.answer)
      (sym d.exited.status_is ∙ e) d.does.reported
  writes_under demands (work.Json report.Check) packed s first before after old new status e d =
      reported_all gs go s first d.last (OrFaultJson demands ReportsCheckedJson s.limits) AllocatesNone before after d.answer
      (sym d.exited.status_is ∙ e) d.does
  writes_under demands (work.Json report.Hash) packed s first before after old new status e d =
      reported_all gs go s first d.last (OrFaultJson demands ReportsHashedJson s.limits)
      (AllocatesCopyUnder demands (words_of s.limits) (depth_of s.limits)) before after d.answer
      (sym d.exited.status_is ∙ e) d.does

module _ {E : Type 0} (ge : output.Ghosts E) where
  -- no fault of reading the first message has that status
  first_fails : (w : Work) (packed : Bool) (fault : ExplainedFault) (old new : E) (status : ℕ) → status ≡ 0
      → ExitsFirst ge w packed fault old new status → ⊥
  first_fails (work.Vet exclusive) packed fault old new status e x = cause_fails fault.fault.cause (sym x.status_is ∙ e)
  first_fails (work.Explain exclusive canonical) packed fault old new status e x = cause_fails fault.fault.cause (sym x.status_is ∙ e)
  first_fails (work.Filter form) packed fault old new status e x = cause_fails fault.fault.cause (sym x.status_is ∙ e)
  first_fails work.Dump packed fault old new status e x = cause_fails fault.fault.cause (sym x.status_is ∙ e)
  first_fails (work.Get path) packed fault old new status e x = cause_fails fault.fault.cause (sym x.status_is ∙ e)
  first_fails work.Check packed fault old new status e x = cause_fails fault.fault.cause (sym x.status_is ∙ e)
  first_fails work.Canon packed fault old new status e x = cause_fails fault.fault.cause (sym x.status_is ∙ e)
  first_fails (work.Hash alone) packed fault old new status e x = cause_fails fault.fault.cause (sym x.status_is ∙ e)
  first_fails (work.Json (report.Vet exclusive)) packed fault old new status e x = cause_fails fault.fault.cause (sym x.status_is ∙ e)
  first_fails (work.Json (report.Explain exclusive canonical)) packed fault old new status e x = cause_fails fault.fault.cause (sym x.status_is ∙ e)
  first_fails (work.Json report.Check) packed fault old new status e x = cause_fails fault.fault.cause (sym x.status_is ∙ e)
  first_fails (work.Json report.Hash) packed fault old new status e x = cause_fails fault.fault.cause (sym x.status_is ∙ e)

module _ {S E : Type 0} (gs : source.Ghosts S) (ge : output.Ghosts E) where
  -- with the status of success the work had it too, and the input ended
  ends_well : (done : ℕ) (mid last : S) (old new : E) (status : ℕ) → status ≡ 0 → EndsOne gs ge done mid last old new status
      → (done ≡ 0) × EndsStream gs mid last
  ends_well done mid last old new status e (inl f) = absurd (let is = f.3 in cc)
  ends_well done mid last old new status e (inr (differs, (Ok ended, ends, kept))) = (sym kept.1 ∙ e, ends.ok)
  ends_well done mid last old new status e (inr (differs, (Err fault, ends, x))) =
      absurd (single_fails fault (sym x.status_is ∙ e))

module _ {S F O E U : Type 0} (gs : source.Ghosts S) (gf : source.Ghosts F) (go : output.Ghosts O) (ge : output.Ghosts E)
    (gu : sink.Ghosts U) (demands : Demands) (w : Work) (packed : Bool) (s : Settings) where
  -- what was written of the one message of an input
  one_all : (first : S) (before after : O) (old new : E) (status : ℕ) → status ≡ 0
      → DoesOne gs gf go ge gu demands w packed s first before after old new status
      → WritesOne demands w packed s (gs.words first) (gs.is_cut first) (go.written before) (go.written after)
  one_all first before after old new status e d = of d.answer d.reads d.does
    where
      of : (answer : Result (Option VecOut) ExplainedFault) → ReadsSingle gs packed (limit_of s.size) first d.mid answer
          → DoesFirst gs gf go ge gu demands w packed s answer d.mid d.last before after old new status
          → WritesOne demands w packed s (gs.words first) (gs.is_cut first) (go.written before) (go.written after)
      of (Ok (Some frame)) reads (over, between, done, begins, does, ends) =
          let message = reads.message frame refl in
          let over_well = ends_well gs ge done d.mid d.last between new status e ends in
          let all = reads_all gs (limit_of s.size) first d.mid d.last (message.0 ∷ []) message.1 over_well.1 in
          let written = writes_under gf go ge gu demands w packed s over before after old between done over_well.0 does in
          let words = begins.words ∙ ap (λ b. input_words false b) message.2 in
          let cut = begins.is_cut ∙ ap (λ b. input_is_cut false b) message.2 in
          record {
            own = all.own;
            all = all.all;
            message = message.0;
            stream = all.stream;
            within = all.within.0;
            written = subst (λ c. WritesUnder demands w packed s (input_words false (Some (padded_frame message.0))) c
                (go.written before) (go.written after)) cut
                (subst (λ ws. WritesUnder demands w packed s ws (gf.is_cut over) (go.written before) (go.written after)) words written);
          }
      of (Ok None) reads does = absurd (single_fails NoMessage (sym does.2.status_is ∙ e))
      of (Err fault) reads does = absurd (first_fails ge w packed fault old new status e does.2)

module _ {S F O E P U : Type 0} (gs : source.Ghosts S) (gf : source.Ghosts F) (go : output.Ghosts O) (ge : output.Ghosts E)
    (gp : sink.Ghosts P) (gu : sink.Ghosts U) where
  -- what a task with the status of success wrote
  writes_all : (t : Task) (packed : Bool) (s : Settings) (first : S) (before after : O) (old new : E)
      (status : ℕ) → status ≡ 0
      → DoesTask gs gf go ge gp gu t packed s first before after old new status
      → WritesAll t packed s (gs.words first) (gs.is_cut first) (go.written before) (go.written after)
  writes_all task.Segments packed s first before after old new status e d =
      reported_all gs go s first d.last ReportsSegments AllocatesNone before after d.answer (sym d.exited.status_is ∙ e) d.does.reported
  writes_all (task.Vet exclusive) packed s first before after old new status e d =
      writes_under gs go ge gu no_demands (work.Vet exclusive) packed s first before after old new status e d
  writes_all task.Dump packed s first before after old new status e d =
      writes_under gs go ge gu no_demands work.Dump packed s first before after old new status e d
  writes_all (task.Get path) packed s first before after old new status e d =
      writes_under gs go ge gu no_demands (work.Get path) packed s first before after old new status e d
  writes_all task.Check packed s first before after old new status e d =
      writes_under gs go ge gu no_demands work.Check packed s first before after old new status e d
  writes_all task.Canon packed s first before after old new status e d =
      writes_under gs go ge gu no_demands work.Canon packed s first before after old new status e d
  writes_all (task.Under demands w) packed s first before after old new status e d =
      writes_under gs go ge gu demands w packed s first before after old new status e d
  writes_all (task.One demands w) packed s first before after old new status e d =
      one_all gs gf go ge gu demands w packed s first before after old new status e d
  writes_all task.Pack packed s first before after old new status e d =
      all_copied gs go s first d.last gp pack_text most_packed_at_once before after d.answer
      (sym d.exited.status_is ∙ e) d.does
  writes_all task.Unpack packed s first before after old new status e d =
      all_copied gs go s first d.last gu plain_text most_unpacked_at_once before after d.answer
      (sym d.exited.status_is ∙ e) d.does

module _ {S F O E P U : Type 0} {gs : source.Ghosts S} {gf : source.Ghosts F} {go : output.Ghosts O} {ge : output.Ghosts E}
    {gp : sink.Ghosts P} {gu : sink.Ghosts U} where
  -- and what a job wrote
  pub job_writes_all : {I : Type 0} {gi : input.Ghosts I} {is_packed packed : Bool} {job : Job}
      {start : I} {before after : O} {old new : E} {status : ℕ} → is_packed ≡ packed → status ≡ 0
      → DoesJob gi gs gf go ge gp gu packed job start before after old new status
      → WritesAll job.task job.packed job.settings (input_words is_packed (gi.to_come start))
      (input_is_cut is_packed (gi.to_come start)) (go.written before) (go.written after)
  job_writes_all {gi = gi} {packed = packed} {job = job} {start = start} {before = before} {after = after} {old = old}
      {new = new} {status = status} same e j =
      let written = writes_all gs gf go ge gp gu job.task job.packed job.settings j.first before after old new status e j.does in
      let cut = subst (λ c. WritesAll job.task job.packed job.settings (gs.words j.first) c (go.written before)
      (go.written after))
      j.begins.is_cut written in
      let known = subst (λ w. WritesAll job.task job.packed job.settings w (input_is_cut packed (gi.to_come start))
      (go.written before) (go.written after)) j.begins.words cut in
      subst (λ b. WritesAll job.task job.packed job.settings (input_words b (gi.to_come start))
      (input_is_cut b (gi.to_come start))
      (go.written before) (go.written after)) (sym same) known
