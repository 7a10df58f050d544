-- What goes on of a stream that is filtered, and what is written about the rest (profile). The
-- letters gs, go and ge are of the members of the source's, the output's and the log's types.
use Rattle.std.specs.List.{AllByRecursion}
use Rattle.std.specs.Prelude.{Bool, IfErr, IfOk, IsTrue, List, Ok, Result, Some, [], false, length, sum, true, ℕ, ◌++◌}
use Rattle.std.specs.Prelude.{◌∷◌, ◌≡◌, ◌≤◌, ◌⊎◌}
use Rattle.cap_spec.specs.SpecNames.{Stream, frame_text, sizes_of, packed_frame, plain_text}
use Rattle.cap_words.specs.declared.byte_io.OutFault.{OutFault}
use Rattle.cap_frame.specs.Limit.{limit_of}
use Rattle.cap_walk.specs.declared.demands.Demands.{Demands}
use Rattle.cap_walk.specs.declared.limits.Limits.{Limits}
use Rattle.cap_text.specs.declared.fault.RunFault.{RunFault}
use Rattle.cap_run.specs.Demanding.{OrFaultIn, ReportsExclusiveness, AllocatesIn}
use Rattle.cap_run.specs.Running.{Appended, RunStops, Settled, StopsIn}
use Rattle.cap_run.specs.Streams.{ReadsStream, ReadsToEnd}
use Rattle.cap_run.specs.Reporting.{Reports, ReportsEach, Reported, AllocatesNone, messages_of, outcome_of, texts_of}
use Rattle.cap_run.specs.Vetting.{ReportsAccepted, AllocatesMarks}
use Rattle.cap_run.specs.declared.engines.stream.Counted.{Counted}
use Rattle.cap_run.specs.declared.engines.stream.Counted.TheVariants.{Accepted, NotCanonical, Refused}
use Rattle.cap_run.specs.declared.settings.FilterForm.{FilterForm}
use Rattle.cap_run.specs.declared.settings.Outcome.{Outcome}
use Rattle.cap_run.specs.declared.settings.Settings.{Settings}
use Rattle.cap_words.specs.declared.byte_io.ByteOut as output
use Rattle.cap_words.specs.declared.sources.WordSource as source

-- the line of a message that meets the demands, as `vet` writes it, or `vet --exclusive`
abbrev pub ReportsMet : Bool → ℕ → ℕ → Reports
ReportsMet false = ReportsAccepted
ReportsMet true = ReportsExclusiveness

-- which of these messages need an allocation after they were read: if it is exclusive, all
abbrev pub AllocatesMet : Bool → ℕ → ℕ → List (List ℕ) → Type 0
AllocatesMet false words depth = AllocatesNone
AllocatesMet true words depth = AllocatesMarks words depth

-- the line of each message
abbrev pub ReportsIn : FilterForm → Demands → Limits → Reports
ReportsIn form demands limits = OrFaultIn demands (ReportsMet form.exclusive) limits

-- the messages that need an allocation after they were read
abbrev pub AllocatesInForm : FilterForm → Demands → Limits → List (List ℕ) → Type 0
AllocatesInForm form demands limits = AllocatesIn demands (AllocatesMet form.exclusive) limits

-- the frame of a message with zero padding, plain or packed
abbrev pub frame_in : Bool → List (List ℕ) → List ℕ
frame_in false m = plain_text (frame_text m)
frame_in true m = packed_frame m

-- of a message that is accepted, its frame goes on; of another nothing
abbrev pub IsPassedOn : Bool → List (List ℕ) → List ℕ → Counted → Type 0
IsPassedOn pack m text Accepted = text ≡ frame_in pack m
IsPassedOn pack m text Refused = text ≡ []
IsPassedOn pack m text NotCanonical = ⊥

-- the log gets the line of a message that is refused, and nothing of another
abbrev pub IsNote : List ℕ → List ℕ → Counted → Type 0
IsNote line text Accepted = text ≡ []
IsNote line text Refused = text ≡ line
IsNote line text NotCanonical = ⊥

-- what goes on of message n, by the verdict that has this line
abbrev pub PassesOn : Bool → Reports → Reports
PassesOn pack verdict n m text counted = (line : List ℕ) × verdict n m line counted
    × IsPassedOn pack m text counted

-- what is written about message n to the log
abbrev pub Notes : Reports → Reports
Notes verdict n m text counted = (line : List ℕ) × verdict n m line counted
    × IsNote line text counted

-- all of these messages were accepted
abbrev pub AllAccepted : List Reported → Type 0
AllAccepted ts = AllByRecursion (λ t. t.counted ≡ Accepted) ts

-- The last of these messages was refused, and all before it were accepted.
pub record LastRefused (ts : List Reported) : Type 0 where
  pub front : List Reported
  pub last : Reported
  pub whole : ts ≡ front ++ last ∷ []
  pub accepted : AllAccepted front
  pub refused : last.counted ≡ Refused

-- These are all messages of a stream, and if it stops at a refused one, all were accepted. Or it
-- stops there, and they are the messages up to the first that was refused.
abbrev pub Covers : Bool → List Reported → List (List (List ℕ)) → Type 0
Covers stop ts ms = ((messages_of ts ≡ ms) × (IsTrue stop → AllAccepted ts))
    ⊎ (IsTrue stop × LastRefused ts
    × ((more : List (List (List ℕ))) × (ms ≡ messages_of ts ++ more)))

-- The last of these messages was accepted.
pub record LastAccepted (ts : List Reported) : Type 0 where
  pub front : List Reported
  pub last : Reported
  pub whole : ts ≡ front ++ last ∷ []
  pub accepted : last.counted ≡ Accepted

-- What goes on of message n after these, at which the output fails: it is accepted, or it is
-- refused and the one before it was accepted.
abbrev pub PassesLast : Bool → Reports → List Reported → Reports
PassesLast pack verdict ts n m text counted = ((counted ≡ Accepted) ⊎ LastAccepted ts)
    × PassesOn pack verdict n m text counted

module _ {S : Type 0} (gs : source.Ghosts S) where
  -- All words of the source are frames of these messages, and if it stops at a refused one, all
  -- were accepted. Or it stops there: nothing was read after the first that was refused.
  abbrev pub ReadsUntil : Bool → ℕ → S → S → List Reported → Type 0
  ReadsUntil stop limit old new ts =
      (ReadsToEnd gs limit old new (messages_of ts) × (IsTrue stop → AllAccepted ts))
      ⊎ (IsTrue stop × LastRefused ts × ReadsStream gs limit old new (messages_of ts))

module _ {E : Type 0} (ge : output.Ghosts E) where
  -- The text was written, or the log failed in it and wasn't called again.
  abbrev pub Logged : E → E → List ℕ → Bool → Type 0
  Logged old new text false = Appended ge old new text
  Logged old new text true = (fault : OutFault) × StopsIn ge old new fault [] text

  -- The lines of these messages were written to the log, or a prefix of them if it failed.
  pub record Noted (verdict : Reports) (ms : List (List (List ℕ))) (old new : E) : Type 0 where
    pub us : List Reported
    pub same : messages_of us ≡ ms
    pub each : ReportsEach (Notes verdict) 0 us
    pub failed : Bool
    pub logged : Logged old new (texts_of us) failed

module _ {S O E : Type 0} (gs : source.Ghosts S) (go : output.Ghosts O) (ge : output.Ghosts E)
    (form : FilterForm) (verdict : Reports) (allocates : List (List ℕ) → Type 0) (limit most : ℕ)
    (old new : S) (before after : O) (first last : E) where
  -- These messages were read, and of each went on what passes.
  abbrev pub FiltersAll : Result Outcome RunFault → Type 0
  FiltersAll answer = IfOk answer (λ outcome. (ts : List Reported)
      × ReadsUntil gs form.stop limit old new ts × ReportsEach (PassesOn form.pack verdict) 0 ts
      × Appended go before after (texts_of ts) × (length ts ≤ most) × (outcome ≡ outcome_of ts)
      × Noted ge verdict (messages_of ts) first last)

  -- The source was `mid` after the messages before the error had been read. If the output failed,
  -- the message at the error was accepted, or the one before it was.
  abbrev pub FiltersUntil : Result Outcome RunFault → Type 0
  FiltersUntil answer = IfErr answer (λ fault. (ts : List Reported) × (mid : S)
      × (fault.message ≡ length ts) × (length ts ≤ most)
      × ReadsStream gs limit old mid (messages_of ts) × ReportsEach (PassesOn form.pack verdict) 0 ts
      × (IsTrue form.stop → AllAccepted ts)
      × RunStops gs go (PassesLast form.pack verdict ts) allocates limit most ts mid new before
      after fault.cause × Noted ge verdict (messages_of ts) first last)

  -- What an engine does that lets the accepted messages of a stream through: at most `most`
  -- messages, each of at most `limit` words. A message in `allocates` may need an allocation after it
  -- was read.
  pub record FiltersStream (answer : Result Outcome RunFault) : Type 0 where
    pub ok : FiltersAll answer
    pub err : FiltersUntil answer
    -- And the other way round: a stream of at most `most` messages, each within the limit, is read
    -- to its end, or to the first refused message where it stops there.
    pub whole : (own : List ℕ) (ms : List (List (List ℕ))) → gs.words old ≡ Some own
        → gs.is_cut old ≡ false → Stream own ms
        → AllByRecursion (λ m. sum (sizes_of m) ≤ limit) ms → length ms ≤ most →
        Settled answer ((ts : List Reported) × Covers form.stop ts ms
        × ReportsEach (PassesOn form.pack verdict) 0 ts × Appended go before after (texts_of ts)
        × (answer ≡ Ok (outcome_of ts)) × Noted ge verdict (messages_of ts) first last)

module _ {S O E : Type 0} (gs : source.Ghosts S) (go : output.Ghosts O) (ge : output.Ghosts E)
    (s : Settings) (old new : S) (before after : O) (first last : E) where
  -- what `run_filter` does with a stream, under demands and within these settings
  abbrev pub FiltersUnder : FilterForm → Demands → Result Outcome RunFault → Type 0
  FiltersUnder form demands = FiltersStream gs go ge form (ReportsIn form demands s.limits)
      (AllocatesInForm form demands s.limits) (limit_of s.size) s.messages old new before after first last
