-- What was written for each message of a stream: a text, and what is counted of the message
-- (profile).
use Rattle.std.specs.Prelude.{Bool, List, [], false, flat_map, length, map, true, ℕ, ◌+◌, ◌∷◌, ◌≡◌}
use Rattle.cap_spec.specs.Texts.{segments_text}
use Rattle.cap_explain.specs.Leading.{frame_words}
use Rattle.cap_run.specs.declared.engines.stream.Counted.{Counted}
use Rattle.cap_run.specs.declared.engines.stream.Counted.TheVariants.{Accepted, NotCanonical, Refused}
use Rattle.cap_run.specs.declared.settings.Outcome.{Outcome}

-- a message, what was written for it, and what is counted of it
pub record Reported : Type 0 where
  pub message : List (List ℕ)
  pub text : List ℕ
  pub counted : Counted

abbrev pub messages_of : List Reported → List (List (List ℕ))
messages_of ts = map (λ t. t.message) ts

-- the texts, one after the other
abbrev pub texts_of : List Reported → List ℕ
texts_of ts = flat_map (λ t. t.text) ts

-- which texts may be written of a message by its number, each with what is counted of it
abbrev pub Reports : Type 1
Reports = ℕ → List (List ℕ) → List ℕ → Counted → Type 0

-- the text of message n's segments, whatever their words say
abbrev pub ReportsSegments : ℕ → List (List ℕ) → List ℕ → Counted → Type 0
ReportsSegments n m text counted = (text ≡ segments_text n m) × (counted ≡ Accepted)

-- the messages that need an allocation after they were read: none
abbrev pub AllocatesNone : List (List ℕ) → Type 0
AllocatesNone m = ⊥

-- the same, by the words of the stream before it too
abbrev pub PlacedReports : Type 1
PlacedReports = ℕ → Reports

-- the words of a message's frame, or 0 where they aren't counted
abbrev pub words_if : Bool → List (List ℕ) → ℕ
words_if false m = 0
words_if true m = frame_words m

-- the words before a message, or 0 where they aren't counted
abbrev pub place_if : Bool → ℕ → ℕ
place_if false before = 0
place_if true before = before

-- the words of the frames of these messages, or 0
abbrev pub framed_words : Bool → List Reported → ℕ
framed_words counts [] = 0
framed_words counts (t ∷ ts) = words_if counts t.message + framed_words counts ts

-- each text is one that may be written of its message, from this word and this number on
abbrev pub ReportsAt : Bool → PlacedReports → ℕ → ℕ → List Reported → Type 0
ReportsAt counts reports before n [] = Unit {0}
ReportsAt counts reports before n (t ∷ ts) = reports before n t.message t.text t.counted
    × ReportsAt counts reports (before + words_if counts t.message) (n + 1) ts

-- where a text depends on the words before its message
abbrev pub ReportsFrom : PlacedReports → ℕ → ℕ → List Reported → Type 0
ReportsFrom reports = ReportsAt true reports

-- where it doesn't
abbrev pub ReportsEach : Reports → ℕ → List Reported → Type 0
ReportsEach reports n ts = ReportsAt false (λ before. reports) 0 n ts

-- one for a message that was refused
abbrev pub one_refused : Counted → ℕ
one_refused Accepted = 0
one_refused Refused = 1
one_refused NotCanonical = 0

-- one for a message that isn't canonical
abbrev pub one_noncanonical : Counted → ℕ
one_noncanonical Accepted = 0
one_noncanonical Refused = 0
one_noncanonical NotCanonical = 1

abbrev pub refused_in : List Reported → ℕ
refused_in [] = 0
refused_in (t ∷ ts) = one_refused t.counted + refused_in ts

abbrev pub noncanonical_in : List Reported → ℕ
noncanonical_in [] = 0
noncanonical_in (t ∷ ts) = one_noncanonical t.counted + noncanonical_in ts

-- the three counts
abbrev pub outcome_of : List Reported → Outcome
outcome_of ts = record {
  messages = length ts;
  refused = refused_in ts;
  noncanonical =
      noncanonical_in ts;
}
