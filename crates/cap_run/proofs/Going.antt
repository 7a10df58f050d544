-- How far an engine has come: the messages of a prefix of the stream were read and reported of.
use Rattle.std.proofs.Common.{Bool, List, [], arith, false, true, length, length-append, refl, subst, ℕ, ◌*◌, ◌++◌, ◌+◌, ◌<◌, ◌^◌}
use Rattle.std.proofs.Common.{◌∷◌, ◌≡◌, ◌≤◌, rules}
use Rattle.std.proofs.KnownBytes.{Appends-nil, Appends-trans}
use Rattle.std.proofs.lemmas.List.{length-map}
use Rattle.cap_frame.specs.Reading.{TakesFrame}
use Rattle.cap_text.specs.Writing.{Stopped, Wrote}
use Rattle.cap_run.specs.Reporting.{PlacedReports, ReportsAt, place_if, words_if, framed_words}
use Rattle.cap_run.specs.RunNames.{OutFault, Cause, Appended, RunStops, StepStops, StopsIn, ReadsStream}
use Rattle.cap_run.specs.RunNames.{Reported, messages_of, one_noncanonical, one_refused, outcome_of, texts_of}
use Rattle.cap_run.specs.RunNames.{Counted, Outcome}
use Rattle.cap_run.proofs.Streams.{reads_both, reads_none}
use Rattle.cap_run.proofs.Reporting.{messages_of-snoc, noncanonical_in_le, outcome_of-snoc, refused_in_le}
use Rattle.cap_run.proofs.Reporting.{texts_of-snoc}
use Rattle.cap_words.specs.declared.byte_io.ByteOut as output
use Rattle.cap_words.specs.declared.sources.WordSource as source

module _ {O : Type 0} (g : output.Ghosts O) where
  -- nothing was written yet
  pub appended_none : (o : O) → Appended g o o []
  appended_none o = record { appended = Appends-nil (g.written o); broken = refl; failures = refl }

  -- some texts, and then another
  pub appended_more : (a b c : O) (xs ys : List ℕ) → Appended g a b xs → Wrote g b c ys → Appended g a c (xs ++ ys)
  appended_more a b c xs ys p w = search (rules, Appends-trans)

  -- a fault came after some texts, in another
  pub stops_in : (a b c : O) (fault : OutFault) (xs ys : List ℕ) → Appended g a b xs → Stopped g b c fault ys → StopsIn g a c fault xs ys
  stops_in a b c x4 xs ys p q = search (rules, Appends-trans, Appends-nil)

-- the words of messages, with one more
pub words_in-snoc : (counts : Bool) (ts : List Reported) (t : Reported) → framed_words counts (ts ++ t ∷ []) ≡ framed_words counts ts + words_if counts t.message
words_in-snoc counts [] t = omega arith
words_in-snoc counts (u ∷ ts) t = let e = words_in-snoc counts ts t in omega (arith, e)

-- one more text
at-snoc : (counts : Bool) (reports : PlacedReports) (b n : ℕ) (ts : List Reported) (t : Reported) → ReportsAt counts reports b n ts
    → reports (b + framed_words counts ts) (n + length ts) t.message t.text t.counted → ReportsAt counts reports b n (ts ++ t ∷ [])
at-snoc counts reports b n (u ∷ ts) t p q = (
  p.0,
  at-snoc counts reports (b + words_if counts u.message) (n + 1) ts t p.1
      (subst (λ k. reports k (n + 1 + length ts) t.message t.text t.counted)
      (let e : b + (words_if counts u.message + framed_words counts ts) ≡ b + words_if counts u.message + framed_words counts ts = omega arith in e)
      (subst (λ k. reports (b + (words_if counts u.message + framed_words counts ts)) k t.message t.text t.counted)
      (let e : n + length (u ∷ ts) ≡ n + 1 + length ts = omega arith in e) q)),
)
at-snoc counts reports b n ts t p q = search rules

-- the frame of a message that was read is small
pub frame_small : {S : Type 0} (g : source.Ghosts S) (counts : Bool) (limit : ℕ) (old new : S) (held : List (List ℕ))
    → (m : List (List ℕ)) × TakesFrame g limit old new m × (held ≡ m) → limit ≤ 2 ^ 28 → words_if counts held ≤ 2 ^ 29
frame_small g counts limit old new held h few = search (rules, length-map)

-- a place is small, counted or not
pub place_small : (counts : Bool) (before : ℕ) → before < 2 ^ 61 → place_if counts before < 2 ^ 61
place_small false before few = omega arith
place_small true before few = few

module _ {S O : Type 0} (gs : source.Ghosts S) (go : output.Ghosts O) (counts : Bool) (reports : PlacedReports) (limit : ℕ) where
  -- This many messages were read and reported, of this many words.
  pub record Going (old new : S) (before after : O) (outcome : Outcome) (number words : ℕ) : Type 0 where
    pub ts : List Reported
    pub many : length ts ≡ number
    pub long : words ≡ framed_words counts ts
    pub few : words ≤ number * 2 ^ 29
    pub counted : outcome ≡ outcome_of ts
    pub reads : ReadsStream gs limit old new (messages_of ts)
    pub each : ReportsAt counts reports 0 0 ts
    pub appended : Appended go before after (texts_of ts)

  -- no more were refused than there were
  pub going_refused : (old new : S) (before after : O) (outcome : Outcome) (number words : ℕ)
      → Going old new before after outcome number words → outcome.refused ≤ outcome.messages
  going_refused old new before after outcome number words w = rw w.counted (refused_in_le w.ts)

  -- no more weren't canonical than there were
  pub going_noncanonical : (old new : S) (before after : O) (outcome : Outcome) (number words : ℕ)
      → Going old new before after outcome number words → outcome.noncanonical ≤ outcome.messages
  going_noncanonical old new before after outcome number words w = rw w.counted (noncanonical_in_le w.ts)

module _ {S O : Type 0} {gs : source.Ghosts S} {go : output.Ghosts O} {counts : Bool} {reports : PlacedReports} {limit : ℕ} where
  -- none yet
  pub going_none : {s : S} {o : O} → Going gs go counts reports limit s s o o (record { messages = 0; refused = 0; noncanonical = 0 }) 0 0
  going_none = search (rules, reads_none, appended_none)

  -- one more
  pub going_more : {old mid new : S} {before between after : O} {outcome next : Outcome} {number words more : ℕ} (t : Reported)
      (counted : Counted) → t.counted ≡ counted → Going gs go counts reports limit old mid before between outcome number words
      → reports words number t.message t.text t.counted → ReadsStream gs limit mid new (t.message ∷ []) → Wrote go between after t.text
      → more ≡ words_if counts t.message → more ≤ 2 ^ 29
      → next ≡ record {
        messages = outcome.messages + 1;
        refused = outcome.refused + one_refused counted;
        noncanonical =
            outcome.noncanonical + one_noncanonical counted;
      }
      → Going gs go counts reports limit old new before after next (number + 1) (words + more)
  going_more {old} {mid} {new} {before} {between} {after} {outcome} {next} {number} {words} t counted same w reported reads wrote is few sums =
      search (
        rules,
        length-append w.ts (t ∷ []),
        words_in-snoc counts w.ts t,
        outcome_of-snoc w.ts t outcome w.counted,
        messages_of-snoc w.ts t,
        reads_both gs limit old mid new (messages_of w.ts) (t.message ∷ []) w.reads reads,
        at-snoc,
        texts_of-snoc w.ts t,
        appended_more go before between after (texts_of w.ts) t.text w.appended wrote,
      )

module _ {S O : Type 0} (gs : source.Ghosts S) (go : output.Ghosts O) (counts : Bool) (reports : PlacedReports)
    (allocates : List (List ℕ) → Type 0) (limit : ℕ) where
  -- it ended at the next message
  pub going_stops : (old mid new : S) (before between after : O) (outcome : Outcome) (number words most : ℕ) (cause : Cause)
      → (w : Going gs go counts reports limit old mid before between outcome number words) → number < most
      → StepStops gs go (reports words) allocates limit number mid new between after cause
      → RunStops gs go (reports (framed_words counts w.ts)) allocates limit most w.ts mid new before after cause
  going_stops old mid new before between after outcome number words most x11 w h q = search (rules, stops_in)
