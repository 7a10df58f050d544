-- What the steps of the engine `run_filter` do for a filter (profile). A filter has a form, demands and
-- limits. gs, go and ge have the members of the types of the source, of the output, and of the log.
use Rattle.std.specs.Prelude.{List, Result, ℕ}
use Rattle.cap_frame.specs.Limit.{limit_of}
use Rattle.cap_text.specs.declared.fault.Cause.{Cause}
use Rattle.cap_text.specs.declared.fault.RunFault.{RunFault}
use Rattle.cap_run.specs.Filtering.{FiltersAll, FiltersUntil, ReportsIn, AllocatesInForm}
use Rattle.cap_run.specs.Sifting.{SiftStops, Sifts, SiftsNext}
use Rattle.cap_run.specs.Reporting.{Reports}
use Rattle.cap_run.specs.declared.engines.filter.FilterBuffers.{FilterBuffers}
use Rattle.cap_run.specs.declared.engines.sifting.FilterState.{FilterState}
use Rattle.cap_run.specs.declared.engines.sifting.MessageFilter.{MessageFilter}
use Rattle.cap_run.specs.declared.engines.stream.Counted.{Counted}
use Rattle.cap_run.specs.declared.settings.Outcome.{Outcome}
use Rattle.cap_run.specs.declared.settings.Settings.{Settings}
use Rattle.cap_words.specs.declared.byte_io.ByteOut as output
use Rattle.cap_words.specs.declared.sources.WordSource as source

-- the line of each message
abbrev pub FilterReports : MessageFilter → Reports
FilterReports v = ReportsIn v.form v.demands v.limits

-- the messages that need an allocation after they were read
abbrev pub FilterAllocates : MessageFilter → List (List ℕ) → Type 0
FilterAllocates v = AllocatesInForm v.form v.demands v.limits

module _ {O E : Type 0} (go : output.Ghosts O) (ge : output.Ghosts E) (v : MessageFilter) (n : ℕ) (m : List (List ℕ))
    (before after : O) (first last : E) (p q : FilterState) where
  -- message n was vetted, and its frame or its line was written
  abbrev pub SiftsOne : Result Counted Cause → Type 0
  SiftsOne = Sifts go ge v.form.pack (FilterReports v) (FilterAllocates v) n m before after first last
      p.failed q.failed p.waits q.waits

module _ {S O E : Type 0} (gs : source.Ghosts S) (go : output.Ghosts O) (ge : output.Ghosts E) (v : MessageFilter)
    (limit n : ℕ) (old new : S) (before after : O) (first last : E) (a b : FilterBuffers) where
  -- message n was read and sifted
  abbrev pub FilterReadsNext : Result Counted Cause → Type 0
  FilterReadsNext = SiftsNext gs go ge v.form.pack (FilterReports v) (FilterAllocates v) limit n old new before after first last
      a.state.failed b.state.failed a.state.waits b.state.waits

  -- why the engine ended at message n
  abbrev pub FilterStops : Cause → Type 0
  FilterStops = SiftStops gs go ge v.form.pack (FilterReports v) (FilterAllocates v) limit n old new before after first last
      a.state.failed b.state.failed a.state.waits b.state.waits

module _ {S O E : Type 0} (gs : source.Ghosts S) (go : output.Ghosts O) (ge : output.Ghosts E)
    (s : Settings) (old new : S) (before after : O) (first last : E) where
  -- the messages of a stream were read and sifted
  abbrev pub FilterReachesEnd : MessageFilter → Result Outcome RunFault → Type 0
  FilterReachesEnd v = FiltersAll gs go ge v.form (FilterReports v) (FilterAllocates v) (limit_of s.size) s.messages old new
      before after first last

  -- or the engine ended before
  abbrev pub FilterStopsEarly : MessageFilter → Result Outcome RunFault → Type 0
  FilterStopsEarly v = FiltersUntil gs go ge v.form (FilterReports v) (FilterAllocates v) (limit_of s.size) s.messages old new
      before after first last
