-- Demands by default, and texts and allocations that are among others.
use Rattle.cap_spec.proofs.ProofNames.{Bool, List, Result, [], false, ℕ, ◌+◌, ◌∷◌, ◌≡◌, ◌≤◌, rules}
use Rattle.cap_walk.specs.Demands.{words_under, no_demands}
use Rattle.cap_run.specs.RunNames.{Demands, Cause, RunFault, OrFault, AllocatesUnder, ReachesEnd, StopsEarly, ReportsAll, ReportsStream}
use Rattle.cap_run.specs.Reporting.{PlacedReports, ReportsAt, words_if}
use Rattle.cap_run.specs.RunNames.{RunStops, Reports, Reported, AllocatesNone, Counted, Outcome}
use Rattle.cap_run.proofs.Settling.{settled}
use Rattle.cap_words.specs.declared.byte_io.ByteOut as output
use Rattle.cap_words.specs.declared.sources.WordSource as source

module _ (counts : Bool) (reports others : PlacedReports)
    (turn : (b n : ℕ) (m : List (List ℕ)) (text : List ℕ) (counted : Counted) → reports b n m text counted
    → others b n m text counted) where
  -- each text is one of others
  each_as : (b n : ℕ) (ts : List Reported) → ReportsAt counts reports b n ts → ReportsAt counts others b n ts
  each_as b n [] e = tt
  each_as b n (t ∷ ts) e = (turn b n t.message t.text t.counted e.0, each_as (b + words_if counts t.message) (n + 1) ts e.1)

  module _ {S O : Type 0} (gs : source.Ghosts S) (go : output.Ghosts O) (allocates needs : List (List ℕ) → Type 0)
      (want : (m : List (List ℕ)) → allocates m → needs m) (limit most : ℕ) (old new : S) (before after : O) where
    stops_as : (b : ℕ) (ts : List Reported) (mid : S) (cause : Cause)
        → RunStops gs go (reports b) allocates limit most ts mid new before after cause
        → RunStops gs go (others b) needs limit most ts mid new before after cause
    stops_as b ts mid x3 s = search rules

    reaches_as : (r : Result Outcome RunFault) → ReachesEnd gs go counts reports limit most old new before after r
        → ReachesEnd gs go counts others limit most old new before after r
    reaches_as x1 e = search (rules, each_as)

    early_as : (r : Result Outcome RunFault) → StopsEarly gs go counts reports limit most old new before after allocates r
        → StopsEarly gs go counts others limit most old new before after needs r
    early_as x1 e = search (rules, each_as, stops_as)

    -- and so is what is written of a stream
    pub stream_as : (r : Result Outcome RunFault) → ReportsAll gs go counts reports allocates limit most old new before after r
        → ReportsAll gs go counts others needs limit most old new before after r
    stream_as r e =
        let ok = reaches_as r e.ok in
        let err = early_as r e.err in
        record {
          ok = ok;
          err = err;
          whole = λ own ms. settled gs go counts others limit most old new before after needs r own ms ok err;
        }

-- what is demanded by default
pub default_none : (demands : Demands) → demands.strict ≡ false → demands.unamplified ≡ false
    → demands ≡ no_demands
default_none demands strict plain = search rules

-- demands raise no word limit
pub under_few : (demands : Demands) (m : List (List ℕ)) (words : ℕ) → words_under demands m words ≤ words
under_few demands m words = search rules

module _ {S O : Type 0} (gs : source.Ghosts S) (go : output.Ghosts O) where
  -- where no message needs an allocation
  pub never_allocates : (reports : ℕ → ℕ → Reports) (words depth limit most : ℕ) (old new : S) (before after : O)
      (r : Result Outcome RunFault) (demands : Demands)
      → ReportsStream gs go (OrFault demands reports words depth) (AllocatesUnder demands (λ w d. AllocatesNone) words depth)
      limit most old new before after r
      → ReportsStream gs go (OrFault demands reports words depth) AllocatesNone limit most old new before after r
  never_allocates reports words depth limit most old new before after r demands e = search (rules, stream_as)

  -- allocations that are among others
  pub allocates_as : (counts : Bool) (reports : PlacedReports) (limit most : ℕ) (old new : S) (before after : O)
      (allocates needs : List (List ℕ) → Type 0) → ((m : List (List ℕ)) → allocates m → needs m) → (r : Result Outcome RunFault)
      → ReportsAll gs go counts reports allocates limit most old new before after r
      → ReportsAll gs go counts reports needs limit most old new before after r
  allocates_as counts reports limit most old new before after allocates needs want r t =
      stream_as counts reports reports (λ b n m text counted e. e) gs go allocates needs want limit most old new before after r t
