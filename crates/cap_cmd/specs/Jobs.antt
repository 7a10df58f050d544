-- What a job does: its engine returns an answer over the words of its input. The status and the
-- line of a fault report that answer (profile). The members of types have the letters of types. gi
-- is of the input's, and gs of the source's over it. That of a source over bytes in memory is gf.
-- Those of the two outputs' are go and ge. That of a packer's over the first is gp, and that of a plain
-- sink's is gu.
use Rattle.std.specs.Io.KnownBytes.{Appends, append_known}
use Rattle.std.specs.List.{AllByRecursion}
use Rattle.std.specs.Prelude.{Bool, Err, List, Ok, OnSome, Option, Result, Some, [], false, if◌then◌else◌, length}
use Rattle.std.specs.Prelude.{None, option_map, sum, true, unwrap_or, ℕ, ◌||◌, ◌∷◌, ◌≡◌, ◌≢◌, ◌≤◌, ◌⊎◌}
use Rattle.cap_spec.specs.PackedEnds.{packed_ends}
use Rattle.cap_spec.specs.Plain.{plain_ends}
use Rattle.cap_spec.specs.SpecNames.{Stream, sizes_of, pack_text, plain_is_cut, plain_text, plain_words, packed_is_cut}
use Rattle.cap_spec.specs.SpecNames.{unpacked}
use Rattle.cap_words.specs.Vectors.{vec_written}
use Rattle.cap_words.specs.declared.byte_io.OutFault.{OutFault}
use Rattle.cap_words.specs.declared.vec_out.VecOut.{VecOut}
use Rattle.cap_frame.specs.Limit.{limit_of}
use Rattle.cap_walk.specs.Demands.{no_demands}
use Rattle.cap_walk.specs.Limits.{depth_of, words_of}
use Rattle.cap_walk.specs.declared.demands.Demands.{Demands}
use Rattle.cap_text.specs.BreakLines.{explained_fault_text}
use Rattle.cap_text.specs.FaultLines.{copy_fault_line, run_fault_line, single_fault_line}
use Rattle.cap_text.specs.Guesses.{guessed_fault_text}
use Rattle.cap_text.specs.Writing.{Writes}
use Rattle.cap_text.specs.declared.fault.CopyFault.{CopyFault}
use Rattle.cap_text.specs.declared.fault.ExplainedFault.{ExplainedFault}
use Rattle.cap_text.specs.declared.fault.RunFault.{RunFault}
use Rattle.cap_text.specs.declared.fault.SingleFault.{SingleFault}
use Rattle.cap_text.specs.declared.fault.SingleFault.TheVariants.{NoMessage}
use Rattle.cap_run.specs.Breaking.{ExplainsStream, run_answer}
use Rattle.cap_run.specs.Reporting.{PlacedReports, ReportsFrom}
use Rattle.cap_run.specs.Engines.{ShowsStream}
use Rattle.cap_run.specs.Hashing.{AllocatesCopyUnder, ReportsDigestUnder, ReportsHashUnder}
use Rattle.cap_run.specs.Single.{EndsSingle, ReadsSingle, padded_frame}
use Rattle.cap_run.specs.Filtering.{FiltersUnder}
use Rattle.cap_run.specs.ExplainedJson.{OrFaultExplained, ReportsAcceptedObject, ReportsExclusivenessExplained}
use Rattle.cap_run.specs.JsonReports.{OrFaultJson, ReportsAcceptedJson, ReportsCheckedJson, ReportsHashedJson, ReportsExclusivenessJson}
use Rattle.cap_run.specs.RunNames.{AreCanonised, Canonised, MakesCopiesUnder, canonised, copies_of, ReportsCheckUnder}
use Rattle.cap_run.specs.RunNames.{ReportsDumpUnder, ReportsExclusiveUnder, ReportsGetUnder, ReportsVerdictUnder}
use Rattle.cap_run.specs.RunNames.{AllocatesMarksUnder, ReportsStream, TranscodesWords, most_packed_at_once, most_transcoded}
use Rattle.cap_run.specs.RunNames.{most_unpacked_at_once, ReportsExplainedExclusiveUnder, ReportsExplainedUnder, PassesOn}
use Rattle.cap_run.specs.RunNames.{ReportsIn, Reports, ReportsEach, ReportsSegments, Reported, AllocatesNone, messages_of}
use Rattle.cap_run.specs.RunNames.{noncanonical_in, refused_in, texts_of}
use Rattle.cap_run.specs.declared.settings.FilterForm.{FilterForm}
use Rattle.cap_run.specs.declared.settings.Outcome.{Outcome}
use Rattle.cap_run.specs.declared.settings.Settings.{Settings}
use Rattle.cap_cmd.specs.Statuses.{failed_status, run_status, single_status, transcode_status}
use Rattle.cap_cmd.specs.declared.jobs.Job.{Job}
use Rattle.cap_cmd.specs.declared.jobs.JsonReport.TheVariants as report
use Rattle.cap_cmd.specs.declared.jobs.Task.{Task}
use Rattle.cap_cmd.specs.declared.jobs.Task.TheVariants as task
use Rattle.cap_cmd.specs.declared.jobs.Work.{Work}
use Rattle.cap_cmd.specs.declared.jobs.Work.TheVariants as work
use Rattle.cap_words.specs.declared.byte_io.ByteIn as input
use Rattle.cap_words.specs.declared.byte_io.ByteOut as output
use Rattle.cap_words.specs.declared.sinks.WordSink as sink
use Rattle.cap_words.specs.declared.sources.WordSource as source

-- the input of unpacking is packed, that of packing is not, and for messages the user decides
abbrev pub is_packed : Task → Bool → Bool
is_packed task.Segments asked = asked
is_packed (task.Vet exclusive) asked = asked
is_packed task.Dump asked = asked
is_packed (task.Get path) asked = asked
is_packed task.Check asked = asked
is_packed task.Canon asked = asked
is_packed (task.Under demands w) asked = asked
is_packed (task.One demands w) asked = asked
is_packed task.Pack asked = false
is_packed task.Unpack asked = true

abbrev pub reads_packed : Job → Bool
reads_packed job = is_packed job.task job.packed

-- the words of an input that is packed or not, where its bytes are known
abbrev pub input_words : Bool → Option (List ℕ) → Option (List ℕ)
input_words packed bytes = if packed then option_map unpacked bytes
    else option_map plain_words bytes

-- whether it ends inside a group, or inside a word
abbrev pub input_is_cut : Bool → Option (List ℕ) → Bool
input_is_cut packed bytes =
    if packed then packed_is_cut (unwrap_or bytes []) else plain_is_cut (unwrap_or bytes [])

-- the places of its words and of its end
abbrev pub input_ends : Bool → Option (List ℕ) → List ℕ
input_ends packed bytes =
    if packed then packed_ends 0 (unwrap_or bytes []) else plain_ends 0 (unwrap_or bytes [])

module _ {I S : Type 0} (gi : input.Ghosts I) (gs : source.Ghosts S) where
  -- A source begins with the words of an input that is packed or not.
  -- It fails as often as the input that it reads.
  pub record BeginsInput (packed : Bool) (start : I) (first : S) : Type 0 where
    pub words : gs.words first ≡ input_words packed (gi.to_come start)
    pub is_cut : gs.is_cut first ≡ input_is_cut packed (gi.to_come start)
    pub places : OnSome (gi.to_come start) (gs.places first ≡ input_ends packed (gi.to_come start))
    pub place : gs.place first ≡ 0
    pub broken : gs.broken first ≡ gi.broken start
    pub failures : gs.failures first ≡ gi.failures start
    pub reads_from : S → I
    pub shows_failures : (s : S) → gs.failures s ≡ gi.failures (reads_from s)

module _ {O K : Type 0} (go : output.Ghosts O) (gk : sink.Ghosts K) where
  -- A sink begins over an output: the text of the words put to it follows what the output took.
  pub record BeginsOutput (text : List ℕ → List ℕ) (start : O) (first : K) : Type 0 where
    pub empty : (ws : List ℕ) → gk.text first ws ≡ append_known (go.written start) (text ws)
    pub taken : gk.taken first ≡ go.written start
    pub closed : gk.closed first ≡ false
    pub broken : gk.broken first ≡ go.broken start
    pub failures : gk.failures first ≡ go.failures start

  -- This is the output that the sink writes to.
  pub record GivesOutput (last : K) (end : O) : Type 0 where
    pub taken : gk.taken last ≡ go.written end
    pub broken : gk.broken last ≡ gk.closed last || go.broken end
    pub failures : gk.failures last ≡ go.failures end

  -- A sink begins over an output, an engine takes it from `begun` to `ended`, and gives the output
  -- back.
  pub record PutsTo (text : List ℕ → List ℕ) (before after : O)
      (engine : K → K → Type 0) : Type 0 where
    pub begun : K
    pub ended : K
    pub begins : BeginsOutput text before begun
    pub puts : engine begun ended
    pub gives : GivesOutput ended after

module _ {S O K : Type 0} (gs : source.Ghosts S) (go : output.Ghosts O) (gk : sink.Ghosts K) where
  -- an engine puts canonical copies to a sink over an output
  abbrev pub CanonsTo : Settings → Demands → S → S → O → O → Result Outcome RunFault → Type 0
  CanonsTo s demands first last before after answer = PutsTo go gk plain_text before after
      (λ begun ended. MakesCopiesUnder gs gk demands (words_of s.limits) (depth_of s.limits)
      (limit_of s.size) s.messages first last begun ended answer)

  -- an engine puts words to a sink over an output
  abbrev pub TranscodesTo : (List ℕ → List ℕ) → ℕ → S → S → O → O → Result ℕ CopyFault → Type 0
  TranscodesTo text at_once first last before after answer = PutsTo go gk text before after
      (λ begun ended. TranscodesWords gs gk at_once most_transcoded first last begun ended answer)

-- whether work is to explain each refusal
abbrev pub explains : Work → Bool
explains (work.Explain exclusive canonical) = true
explains (work.Json (report.Explain exclusive canonical)) = true
explains _ = false

-- whether work says what an input of another format looks like, without an explanation
abbrev pub guesses : Work → Bool
guesses (work.Filter form) = true
guesses (work.Hash alone) = true
guesses (work.Json report.Hash) = true
guesses _ = false

-- the status of what comes after the one message of an input
abbrev pub rest_status : Result (Unit {0}) SingleFault → ℕ
rest_status (Ok ended) = 0
rest_status (Err fault) = single_status fault

module _ {E : Type 0} (ge : output.Ghosts E) where
  -- The line of a fault was written, or a prefix of it if this output failed. Without a fault
  -- nothing was written.
  abbrev pub WritesLine : {A F : Type 0} → (F → List ℕ) → Result A F → E → E → Type 0
  WritesLine line (Ok x) old new = new ≡ old
  WritesLine line (Err fault) old new = (r : Result (Unit {0}) OutFault)
      × Writes ge old new r (line fault)

  -- The status and the line of a fault are those of this answer.
  pub record Exits {A F : Type 0} (status_of : Result A F → ℕ) (line : F → List ℕ)
      (answer : Result A F) (old new : E) (status : ℕ) : Type 0 where
    pub status_is : status ≡ status_of answer
    pub line_is : WritesLine line answer old new

  -- the answer of an engine over messages
  abbrev pub ExitsRun : Result Outcome RunFault → E → E → ℕ → Type 0
  ExitsRun = Exits run_status run_fault_line

  -- the same, with a line of a guess after that of a fault, by whether the input is read as packed, and
  -- by how many bytes of it were read
  abbrev pub ExitsGuessed : Bool → ℕ → Result Outcome RunFault → E → E → ℕ → Type 0
  ExitsGuessed packed place = Exits run_status (guessed_fault_text packed place)

  -- the answer of an engine that explains: after the line of a fault come the lines that explain it
  abbrev pub ExitsExplained : Result Outcome ExplainedFault → E → E → ℕ → Type 0
  ExitsExplained = Exits (λ answer. run_status (run_answer answer)) explained_fault_text

  -- the fault with which reading the first message ended, by whether it is explained, and whether the
  -- format is guessed
  abbrev pub ExitsUnread : Bool → Bool → Bool → ExplainedFault → E → E → ℕ → Type 0
  ExitsUnread true guessed packed fault = ExitsExplained (Err fault)
  ExitsUnread false true packed fault = ExitsGuessed packed fault.at.start (Err fault.fault)
  ExitsUnread false false packed fault = ExitsRun (Err fault.fault)

  -- both by the work
  abbrev pub ExitsFirst : Work → Bool → ExplainedFault → E → E → ℕ → Type 0
  ExitsFirst w = ExitsUnread (explains w) (guesses w)

  -- an input that isn't exactly one message
  abbrev pub ExitsSingle : SingleFault → E → E → ℕ → Type 0
  ExitsSingle fault old new status = Exits {A = Unit {0}} {F = SingleFault} rest_status single_fault_line (Err fault)
      old new status

  -- the answer of an engine over words
  abbrev pub ExitsCopy : Result ℕ CopyFault → E → E → ℕ → Type 0
  ExitsCopy = Exits transcode_status copy_fault_line

module _ {S E : Type 0} where
  -- An engine left its source at `last` and gave an answer, which is reported.
  pub record Runs {A : Type 0} (engine : S → A → Type 0) (exits : A → E → E → ℕ → Type 0)
      (old new : E) (status : ℕ) : Type 0 where
    pub last : S
    pub answer : A
    pub does : engine last answer
    pub exited : exits answer old new status

  -- the same, if the report is also about where the engine left its source
  pub record RunsTo {A : Type 0} (engine : S → A → Type 0) (exits : S → A → E → E → ℕ → Type 0)
      (old new : E) (status : ℕ) : Type 0 where
    pub last : S
    pub answer : A
    pub does : engine last answer
    pub exited : exits last answer old new status

module _ {S O E : Type 0} (gs : source.Ghosts S) (go : output.Ghosts O) (ge : output.Ghosts E) where
  -- an engine that writes a text of each message
  abbrev pub ReportsTask : Reports → (List (List ℕ) → Type 0) → Settings → S → O → O → E → E → ℕ
      → Type 0
  ReportsTask reports allocates s first before after = Runs
      (λ last answer. ReportsStream gs go reports allocates (limit_of s.size) s.messages first last before
      after answer)
      (ExitsRun ge)

  -- the same, where a fault of the format comes with a guess
  abbrev pub GuessesTask : Reports → (List (List ℕ) → Type 0) → Bool → Settings → S → O → O → E → E → ℕ
      → Type 0
  GuessesTask reports allocates packed s first before after = RunsTo
      (λ last answer. ReportsStream gs go reports allocates (limit_of s.size) s.messages first last before
      after answer)
      (λ last. ExitsGuessed ge packed (gs.place last))

  -- an engine that explains
  abbrev pub ExplainsTask : PlacedReports → (List (List ℕ) → Type 0) → Bool → Settings → S → O → O → E → E
      → ℕ → Type 0
  ExplainsTask reports allocates packed s first before after = Runs
      (λ last answer. ExplainsStream gs go reports allocates packed (limit_of s.size) s.messages first last
      before after answer)
      (ExitsExplained ge)

  -- The engine that lets accepted messages through writes the lines of the others before `mid`. Its
  -- answer is reported after them, with a guess.
  abbrev pub FiltersTask : FilterForm → Bool → Settings → Demands → S → O → O → E → E → ℕ → Type 0
  FiltersTask form packed s demands first before after old new status = (mid : E) × RunsTo
      (λ last answer. FiltersUnder gs go ge s first last before after old mid form demands answer)
      (λ last. ExitsGuessed ge packed (gs.place last)) mid new status

module _ {S O E K : Type 0} (gs : source.Ghosts S) (go : output.Ghosts O) (ge : output.Ghosts E)
    (gk : sink.Ghosts K) where
  -- the engine that puts canonical copies to a sink over an output
  abbrev pub CanonsTask : Settings → Demands → S → O → O → E → E → ℕ → Type 0
  CanonsTask s demands first before after = Runs
      (λ last answer. CanonsTo gs go gk s demands first last before after answer) (ExitsRun ge)

  -- an engine that puts words to a sink over an output
  abbrev pub TranscodesTask : (List ℕ → List ℕ) → ℕ → S → O → O → E → E → ℕ → Type 0
  TranscodesTask text at_once first before after = Runs
      (λ last answer. TranscodesTo gs go gk text at_once first last before after answer)
      (ExitsCopy ge)

module _ {S O E U : Type 0} (gs : source.Ghosts S) (go : output.Ghosts O) (ge : output.Ghosts E)
    (gu : sink.Ghosts U) where
  -- What is done with each message under demands, by the work: its engine runs, and its answer is
  -- reported.
  abbrev pub DoesUnder : Demands → Work → Bool → Settings → S → O → O → E → E → ℕ → Type 0
  DoesUnder demands (work.Vet false) packed s first before after =
      ReportsTask gs go ge (ReportsVerdictUnder demands (words_of s.limits) (depth_of s.limits))
      AllocatesNone s first before after
  DoesUnder demands (work.Vet true) packed s first before after =
      ReportsTask gs go ge (ReportsExclusiveUnder demands (words_of s.limits) (depth_of s.limits))
      (AllocatesMarksUnder demands (words_of s.limits) (depth_of s.limits)) s first before after
  DoesUnder demands (work.Explain false canonical) packed s first before after =
      ExplainsTask gs go ge (ReportsExplainedUnder packed canonical demands (words_of s.limits) (depth_of s.limits))
      AllocatesNone packed s first before after
  DoesUnder demands (work.Explain true canonical) packed s first before after =
      ExplainsTask gs go ge
      (ReportsExplainedExclusiveUnder packed canonical demands (words_of s.limits) (depth_of s.limits))
      (AllocatesMarksUnder demands (words_of s.limits) (depth_of s.limits)) packed s first before after
  DoesUnder demands (work.Filter form) packed s first before after =
      FiltersTask gs go ge form packed s demands first before after
  DoesUnder demands work.Dump packed s first before after =
      ReportsTask gs go ge (ReportsDumpUnder demands (words_of s.limits) (depth_of s.limits))
      AllocatesNone s first before after
  DoesUnder demands (work.Get path) packed s first before after =
      ReportsTask gs go ge (ReportsGetUnder demands (words_of s.limits) (depth_of s.limits) path.items)
      AllocatesNone s first before after
  DoesUnder demands work.Check packed s first before after =
      ReportsTask gs go ge (ReportsCheckUnder demands (words_of s.limits) (depth_of s.limits))
      AllocatesNone s first before after
  DoesUnder demands work.Canon packed s first before after =
      CanonsTask gs go ge gu s demands first before after
  DoesUnder demands (work.Hash false) packed s first before after =
      GuessesTask gs go ge (ReportsHashUnder demands (words_of s.limits) (depth_of s.limits))
      (AllocatesCopyUnder demands (words_of s.limits) (depth_of s.limits)) packed s first before after
  DoesUnder demands (work.Hash true) packed s first before after =
      GuessesTask gs go ge (ReportsDigestUnder demands (words_of s.limits) (depth_of s.limits))
      (AllocatesCopyUnder demands (words_of s.limits) (depth_of s.limits)) packed s first before after
  DoesUnder demands (work.Json (report.Vet false)) packed s first before after =
      ReportsTask gs go ge (OrFaultJson demands ReportsAcceptedJson s.limits) AllocatesNone s first before after
  DoesUnder demands (work.Json (report.Vet true)) packed s first before after =
      ReportsTask gs go ge (OrFaultJson demands ReportsExclusivenessJson s.limits)
      (AllocatesMarksUnder demands (words_of s.limits) (depth_of s.limits)) s first before after
  DoesUnder demands (work.Json (report.Explain false canonical)) packed s first before after =
      ExplainsTask gs go ge (OrFaultExplained demands (ReportsAcceptedObject canonical) s.limits) AllocatesNone packed s
      first before after
  DoesUnder demands (work.Json (report.Explain true canonical)) packed s first before after =
      ExplainsTask gs go ge (OrFaultExplained demands (ReportsExclusivenessExplained canonical) s.limits)
      (AllocatesMarksUnder demands (words_of s.limits) (depth_of s.limits)) packed s first before after
  DoesUnder demands (work.Json report.Check) packed s first before after =
      ReportsTask gs go ge (OrFaultJson demands ReportsCheckedJson s.limits) AllocatesNone s first before after
  DoesUnder demands (work.Json report.Hash) packed s first before after =
      GuessesTask gs go ge (OrFaultJson demands ReportsHashedJson s.limits)
      (AllocatesCopyUnder demands (words_of s.limits) (depth_of s.limits)) packed s first before after

module _ {S E : Type 0} (gs : source.Ghosts S) (ge : output.Ghosts E) where
  -- After work on the first message had a status, the input ends, and the status stays. Or the line
  -- says that it goes on, or that reading failed.
  abbrev pub ExitsRest : Result (Unit {0}) SingleFault → ℕ → E → E → ℕ → Type 0
  ExitsRest (Ok ended) done old new status = (new ≡ old) × (status ≡ done)
  ExitsRest (Err fault) done old new status = ExitsSingle ge fault old new status

  -- the rest of the input is looked at, unless a device or memory failed before
  abbrev pub EndsOne : ℕ → S → S → E → E → ℕ → Type 0
  EndsOne done mid last old new status =
      ((done ≡ failed_status) × (last ≡ mid) × (new ≡ old) × (status ≡ failed_status))
      ⊎ ((done ≢ failed_status) × ((rest : Result (Unit {0}) SingleFault)
      × EndsSingle gs mid last rest × ExitsRest rest done old new status))

-- an input over bytes that are in memory begins with their words
module _ {F : Type 0} (gf : source.Ghosts F) where
  pub record BeginsFrame (frame : VecOut) (over : F) : Type 0 where
    pub words : gf.words over ≡ input_words false (vec_written frame)
    pub is_cut : gf.is_cut over ≡ input_is_cut false (vec_written frame)
    pub places : OnSome (vec_written frame) (gf.places over ≡ input_ends false (vec_written frame))
    pub place : gf.place over ≡ 0
    pub broken : gf.broken over ≡ false
    pub failures : gf.failures over ≡ 0

module _ {S F O E U : Type 0} (gs : source.Ghosts S) (gf : source.Ghosts F) (go : output.Ghosts O)
    (ge : output.Ghosts E) (gu : sink.Ghosts U) (demands : Demands) (w : Work) (packed : Bool)
    (s : Settings) where
  -- what is done after the first message was asked for, by whether there is one
  abbrev pub DoesFirst : Result (Option VecOut) ExplainedFault → S → S → O → O → E → E → ℕ → Type 0
  DoesFirst (Ok (Some frame)) mid last before after old new status =
      (over : F) × (between : E) × (done : ℕ) × BeginsFrame gf frame over
      × DoesUnder gf go ge gu demands w packed s over before after old between done
      × EndsOne gs ge done mid last between new status
  DoesFirst (Ok None) mid last before after old new status =
      (last ≡ mid) × (after ≡ before) × ExitsSingle ge NoMessage old new status
  DoesFirst (Err fault) mid last before after old new status =
      (last ≡ mid) × (after ≡ before) × ExitsFirst ge w packed fault old new status

  -- What is done over an input that has to be exactly one message. The work is done over the frame of
  -- its first message, as over a plain stream of one. Then the input has to end.
  pub record DoesOne (first : S) (before after : O) (old new : E) (status : ℕ) : Type 0 where
    pub mid : S
    pub last : S
    pub answer : Result (Option VecOut) ExplainedFault
    pub reads : ReadsSingle gs packed (limit_of s.size) first mid answer
    pub does : DoesFirst answer mid last before after old new status

module _ {S F O E P U : Type 0} (gs : source.Ghosts S) (gf : source.Ghosts F) (go : output.Ghosts O)
    (ge : output.Ghosts E) (gp : sink.Ghosts P) (gu : sink.Ghosts U) where
  -- What is done over the words of a source, by the task.
  abbrev pub DoesTask : Task → Bool → Settings → S → O → O → E → E → ℕ → Type 0
  DoesTask task.Segments packed s first before after = Runs
      (λ last answer. ShowsStream gs go (limit_of s.size) s.messages first last before after answer)
      (ExitsRun ge)
  DoesTask (task.Vet exclusive) packed s first before after =
      DoesUnder gs go ge gu no_demands (work.Vet exclusive) packed s first before after
  DoesTask task.Dump packed s first before after =
      DoesUnder gs go ge gu no_demands work.Dump packed s first before after
  DoesTask (task.Get path) packed s first before after =
      DoesUnder gs go ge gu no_demands (work.Get path) packed s first before after
  DoesTask task.Check packed s first before after =
      DoesUnder gs go ge gu no_demands work.Check packed s first before after
  DoesTask task.Canon packed s first before after =
      DoesUnder gs go ge gu no_demands work.Canon packed s first before after
  DoesTask (task.Under demands w) packed s first before after =
      DoesUnder gs go ge gu demands w packed s first before after
  DoesTask (task.One demands w) packed s first before after =
      DoesOne gs gf go ge gu demands w packed s first before after
  DoesTask task.Pack packed s first before after =
      TranscodesTask gs go ge gp pack_text most_packed_at_once first before after
  DoesTask task.Unpack packed s first before after =
      TranscodesTask gs go ge gu plain_text most_unpacked_at_once first before after

module _ {I S F O E P U : Type 0} (gi : input.Ghosts I) (gs : source.Ghosts S) (gf : source.Ghosts F)
    (go : output.Ghosts O) (ge : output.Ghosts E) (gp : sink.Ghosts P) (gu : sink.Ghosts U) where
  -- A task is done over the words of an input, which is packed or not.
  pub record DoesJob (packed : Bool) (job : Job) (start : I) (before after : O)
      (old new : E) (status : ℕ) : Type 0 where
    pub first : S
    pub begins : BeginsInput gi gs packed start first
    pub does : DoesTask gs gf go ge gp gu job.task job.packed job.settings first before after old new status

-- All words are frames of messages, each within the limit, and none is cut short. Each message is
-- accepted, and canonical if that was asked, and texts of them were written of which `each` holds.
pub record WritesInput (each : List Reported → Type 0) (s : Settings) (words : Option (List ℕ))
    (is_cut : Bool) (before after : Option (List ℕ)) : Type 0 where
  pub own : List ℕ
  pub all : OnSome words ((words ≡ Some own) × (is_cut ≡ false))
  pub ts : List Reported
  pub stream : Stream own (messages_of ts)
  pub within : AllByRecursion (λ m. sum (sizes_of m) ≤ limit_of s.size) (messages_of ts)
  pub many : length ts ≤ s.messages
  pub reported : each ts
  pub accepted : refused_in ts ≡ 0
  pub canonical : noncanonical_in ts ≡ 0
  pub appended : Appends before after (texts_of ts)

-- the text of each is one that may be written of it by its number
abbrev pub WritesReports : Reports → Settings → Option (List ℕ) → Bool → Option (List ℕ)
    → Option (List ℕ) → Type 0
WritesReports reports = WritesInput (ReportsEach reports 0)

-- the same by where it begins too
abbrev pub PlacesInput : PlacedReports → Settings → Option (List ℕ) → Bool → Option (List ℕ)
    → Option (List ℕ) → Type 0
PlacesInput reports = WritesInput (ReportsFrom reports 0 0)

-- All words are frames of messages, each within the limit, and none is cut short. Each message is
-- accepted under the demands and has a canonical copy, and the frame of that was written.
pub record CanonsInput (s : Settings) (demands : Demands) (words : Option (List ℕ)) (is_cut : Bool)
    (before after : Option (List ℕ)) : Type 0 where
  pub own : List ℕ
  pub all : OnSome words ((words ≡ Some own) × (is_cut ≡ false))
  pub cs : List Canonised
  pub stream : Stream own (canonised cs)
  pub within : AllByRecursion (λ m. sum (sizes_of m) ≤ limit_of s.size) (canonised cs)
  pub many : length cs ≤ s.messages
  pub each : AreCanonised demands (words_of s.limits) (depth_of s.limits) cs
  pub appended : Appends before after (plain_text (copies_of cs))

-- The text of all words was written, and none is cut short.
pub record TranscodesInput (text : List ℕ → List ℕ) (words : Option (List ℕ)) (is_cut : Bool)
    (before after : Option (List ℕ)) : Type 0 where
  pub own : List ℕ
  pub all : OnSome words ((words ≡ Some own) × (is_cut ≡ false))
  pub few : length own ≤ most_transcoded
  pub appended : Appends before after (text own)

-- What work under demands with the status of success wrote of all words, by the work.
abbrev pub WritesUnder : Demands → Work → Bool → Settings → Option (List ℕ) → Bool → Option (List ℕ)
    → Option (List ℕ) → Type 0
WritesUnder demands (work.Vet false) packed s =
    WritesReports (ReportsVerdictUnder demands (words_of s.limits) (depth_of s.limits)) s
WritesUnder demands (work.Vet true) packed s =
    WritesReports (ReportsExclusiveUnder demands (words_of s.limits) (depth_of s.limits)) s
WritesUnder demands (work.Explain false canonical) packed s =
    PlacesInput (ReportsExplainedUnder packed canonical demands (words_of s.limits) (depth_of s.limits)) s
WritesUnder demands (work.Explain true canonical) packed s =
    PlacesInput (ReportsExplainedExclusiveUnder packed canonical demands (words_of s.limits) (depth_of s.limits)) s
WritesUnder demands (work.Filter form) packed s =
    WritesReports (PassesOn form.pack (ReportsIn form demands s.limits)) s
WritesUnder demands work.Dump packed s =
    WritesReports (ReportsDumpUnder demands (words_of s.limits) (depth_of s.limits)) s
WritesUnder demands (work.Get path) packed s =
    WritesReports (ReportsGetUnder demands (words_of s.limits) (depth_of s.limits) path.items) s
WritesUnder demands work.Check packed s =
    WritesReports (ReportsCheckUnder demands (words_of s.limits) (depth_of s.limits)) s
WritesUnder demands work.Canon packed s = CanonsInput s demands
WritesUnder demands (work.Hash false) packed s =
    WritesReports (ReportsHashUnder demands (words_of s.limits) (depth_of s.limits)) s
WritesUnder demands (work.Hash true) packed s =
    WritesReports (ReportsDigestUnder demands (words_of s.limits) (depth_of s.limits)) s
WritesUnder demands (work.Json (report.Vet false)) packed s = WritesReports (OrFaultJson demands ReportsAcceptedJson s.limits) s
WritesUnder demands (work.Json (report.Vet true)) packed s = WritesReports (OrFaultJson demands ReportsExclusivenessJson s.limits) s
WritesUnder demands (work.Json (report.Explain false canonical)) packed s =
    PlacesInput (OrFaultExplained demands (ReportsAcceptedObject canonical) s.limits) s
WritesUnder demands (work.Json (report.Explain true canonical)) packed s =
    PlacesInput (OrFaultExplained demands (ReportsExclusivenessExplained canonical) s.limits) s
WritesUnder demands (work.Json report.Check) packed s = WritesReports (OrFaultJson demands ReportsCheckedJson s.limits) s
WritesUnder demands (work.Json report.Hash) packed s = WritesReports (OrFaultJson demands ReportsHashedJson s.limits) s

-- All words are the frame of one message within the limit, and none is cut short. What was written is
-- what the work writes with the status of success of this frame, with zero padding.
pub record WritesOne (demands : Demands) (w : Work) (packed : Bool) (s : Settings) (words : Option (List ℕ))
    (is_cut : Bool) (before after : Option (List ℕ)) : Type 0 where
  pub own : List ℕ
  pub all : OnSome words ((words ≡ Some own) × (is_cut ≡ false))
  pub message : List (List ℕ)
  pub stream : Stream own (message ∷ [])
  pub within : sum (sizes_of message) ≤ limit_of s.size
  pub written : WritesUnder demands w packed s (input_words false (Some (padded_frame message)))
      (input_is_cut false (Some (padded_frame message))) before after

-- What a task with the status of success wrote of all words, by the task.
abbrev pub WritesAll : Task → Bool → Settings → Option (List ℕ) → Bool → Option (List ℕ)
    → Option (List ℕ) → Type 0
WritesAll task.Segments packed s = WritesReports ReportsSegments s
WritesAll (task.Vet exclusive) packed s = WritesUnder no_demands (work.Vet exclusive) packed s
WritesAll task.Dump packed s = WritesUnder no_demands work.Dump packed s
WritesAll (task.Get path) packed s = WritesUnder no_demands (work.Get path) packed s
WritesAll task.Check packed s = WritesUnder no_demands work.Check packed s
WritesAll task.Canon packed s = WritesUnder no_demands work.Canon packed s
WritesAll (task.Under demands w) packed s = WritesUnder demands w packed s
WritesAll (task.One demands w) packed s = WritesOne demands w packed s
WritesAll task.Pack packed s = TranscodesInput pack_text
WritesAll task.Unpack packed s = TranscodesInput plain_text
