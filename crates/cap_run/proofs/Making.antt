-- Transcodes that are put one after the other.
use Rattle.std.proofs.lemmas.Grind.{flat_map-append}
use Rattle.cap_spec.specs.declared.CanonFault.{CanonFault}
use Rattle.cap_spec.specs.declared.CanonFault.TheVariants.{Memory}
use Rattle.cap_spec.proofs.Bytes.Lists.{all_append}
use Rattle.cap_spec.proofs.ProofNames.{Err, IfErr, List, OnOk, Result, [], ap, append-nil, append_assoc, arith, length}
use Rattle.cap_spec.proofs.ProofNames.{length-append, refl, subst, sym, true, ℕ, ◌++◌, ◌+◌, ◌<◌, ◌∙◌, ◌∷◌, ◌≡◌}
use Rattle.cap_spec.proofs.ProofNames.{false≢true, map-append, frame_text, rules}
use Rattle.cap_words.specs.Sinks.{Begins, sink_fault_of}
use Rattle.cap_words.proofs.Known.{begins_kept}
use Rattle.cap_frame.specs.Putting.{Blames, Halts}
use Rattle.cap_frame.proofs.Putting.{blames_later}
use Rattle.cap_walk.specs.Demands.{IsDemandFault}
use Rattle.cap_canon.specs.CopyOvers.{ReportsOver, grown, has_capability, no_memory, over}
use Rattle.cap_canon.proofs.Copies.{cap_no_copy, same_fault}
use Rattle.cap_text.specs.declared.fault.Cause.TheVariants.{Output, Refused, Memory as no_marks}
use Rattle.cap_run.specs.Canons.{CanonEnds, HasNoCopy}
use Rattle.cap_run.specs.Making.{CopiesSoFar, CopyStops, Making, NextStops, StopsMaking, is_unfinished, refused_cause}
use Rattle.cap_run.specs.RunNames.{HasCapability, StrictRefusal, OutFault, SinkFault, Demands, Cause, Canon, Frame}
use Rattle.cap_run.specs.RunNames.{NotStrict, TooManyMessages, Canonised, IsCanonised, canonised, copies_of, Made}
use Rattle.cap_run.specs.RunNames.{EndStops, EndsStream, ReadsStream, PutsWords}
use Rattle.cap_run.proofs.Streams.{reads_both, reads_none}
use Rattle.cap_run.proofs.Transcoding.{fills_both, fills_none, spoils_last}
use Rattle.cap_words.specs.declared.sinks.WordSink as sink
use Rattle.cap_words.specs.declared.sources.WordSource as source

-- what is reported of the fault that came
pub has_no_copy : (m : List (List ℕ)) (old new : List ℕ) (fault : CanonFault) → ReportsOver m old (Err fault) new → HasNoCopy m fault
has_no_copy m old new fault (has_capability s w f e g) = subst (HasNoCopy m) (sym (same_fault fault (HasCapability s w) e)) f
has_no_copy m old new fault (no_memory words h l e g) =
    subst (HasNoCopy m) (sym (same_fault fault Memory e)) (λ s w f. cap_no_copy m s w words f h)
has_no_copy m old new fault (over words h l e t n) = absurd (cc)
has_no_copy m old new fault (grown words h l e t n) = absurd (cc)

module _ {K : Type 0} (gk : sink.Ghosts K) where
  -- a fault came after other words
  pub halts_after : (old mid new : K) (a b : List ℕ) (fault : SinkFault) → PutsWords gk old mid a → Halts gk mid new b fault → Halts gk old new (a ++ b) fault
  halts_after old mid new a b fault f h = search (rules, append_assoc, begins_kept, blames_later)

module _ {K : Type 0} (gk : sink.Ghosts K) (demands : Demands) (words depth : ℕ) where
  -- a message that doesn't meet the demands has no copy
  pub stops_refused : (m : List (List ℕ)) (k : K) (fault : StrictRefusal) → IsDemandFault demands m words depth fault
      → CopyStops gk demands words depth m k k (refused_cause fault)
  stops_refused m k x3 f = search rules

-- one message more
pub canonised-snoc : (cs : List Canonised) (c : Canonised) → canonised (cs ++ c ∷ []) ≡ canonised cs ++ c.message ∷ []
canonised-snoc cs c = map-append (λ d. d.message) cs (c ∷ [])

pub copies_of-snoc : (cs : List Canonised) (c : Canonised) → copies_of (cs ++ c ∷ []) ≡ copies_of cs ++ frame_text (c.copy ∷ [])
copies_of-snoc cs c = flat_map-append (λ d. frame_text (d.copy ∷ [])) cs (c ∷ []) ∙ ap (λ l. copies_of cs ++ l) (append-nil (frame_text (c.copy ∷ [])))

module _ {S K : Type 0} {gs : source.Ghosts S} (gk : sink.Ghosts K) (demands : Demands) (words depth : ℕ) {limit : ℕ} where
  -- a message was read, and its copy wasn't put
  pub next_stops : {m : List (List ℕ)} {old new : S} (before after : K) (cause : Cause)
      → ReadsStream gs limit old new (m ∷ []) → CopyStops gk demands words depth m before after cause
      → NextStops gs gk demands words depth limit old new before after cause
  next_stops before after x6 r s = search rules

module _ {S K : Type 0} (gs : source.Ghosts S) (gk : sink.Ghosts K) (demands : Demands) (words depth limit : ℕ) where
  -- nothing was put yet
  pub so_far_none : (s : S) (k : K) → CopiesSoFar gs gk demands words depth limit s s k k 0
  so_far_none s k = record { cs = []; many = refl; reads = reads_none gs limit s; each = tt; fills = fills_none gk k }

  -- the run ended at the next message
  stops_next : (most : ℕ) (old mid new : S) (before between after : K) (n : ℕ) (cause : Cause) → n < most
      → (w : CopiesSoFar gs gk demands words depth limit old mid before between n)
      → NextStops gs gk demands words depth limit mid new between after cause
      → StopsMaking gs gk demands words depth limit most w.cs mid new before after (Err cause)
  stops_next most old mid new before between after n TooManyMessages less w s = absurd s
  stops_next most old mid new before between after n (Frame fault) less w s = (s.0, rw s.1 w.fills)
  stops_next most old mid new before between after n (Output fault) less w s =
      search (rules, halts_after gk before between after (copies_of w.cs) (frame_text (s.2.0 ∷ [])) (sink_fault_of fault) w.fills s.2.2)
  stops_next most old mid new before between after n (Refused refusal) less w s = ((omega (arith, less, w.many), s.0, s.1, s.2.0), rw s.2.1 w.fills)
  stops_next most old mid new before between after n (NotStrict fault) less w s = search rules
  stops_next most old mid new before between after n (Canon fault) less w s = search rules
  stops_next most old mid new before between after n no_marks less w s = absurd s

  stops_end : (most : ℕ) (mid new : S) (before after : K) (cs : List Canonised) (end : Result (Unit {0}) Cause) → length cs ≡ most
      → PutsWords gk before after (copies_of cs) → OnOk end (EndsStream gs mid new) → IfErr end (λ cause. EndStops gs limit mid new cause)
      → StopsMaking gs gk demands words depth limit most cs mid new before after end
  stops_end most mid new before after cs x7 many f ok err = search rules

  -- what is known before the sink is finished
  ends_before : (most : ℕ) (cs : List Canonised) (mid new : S) (before after : K) (end : Result (Unit {0}) Cause) → is_unfinished end ≡ true
      → StopsMaking gs gk demands words depth limit most cs mid new before after end
      → CanonEnds gs gk demands words depth limit most cs mid new end × PutsWords gk before after (copies_of cs)
  ends_before most cs mid new before after x7 e s = search (rules, false≢true)

module _ {S K : Type 0} {gs : source.Ghosts S} {gk : sink.Ghosts K} {demands : Demands} {words depth limit : ℕ} where
  -- one copy more
  pub so_far_more : {old mid new : S} {before between after : K} {n : ℕ} (c : Canonised)
      → CopiesSoFar gs gk demands words depth limit old mid before between n
      → ReadsStream gs limit mid new (c.message ∷ []) → IsCanonised demands words depth c
      → PutsWords gk between after (frame_text (c.copy ∷ []))
      → CopiesSoFar gs gk demands words depth limit old new before after (n + 1)
  so_far_more {old} {mid} {new} {before} {between} {after} c w reads is fills =
      search (
        rules,
        length-append w.cs (c ∷ []),
        canonised-snoc w.cs c,
        reads_both gs limit old mid new (canonised w.cs) (c.message ∷ []) w.reads reads,
        all_append (IsCanonised demands words depth) w.cs (c ∷ []) w.each (is, tt),
        copies_of-snoc w.cs c,
        fills_both gk before between after (copies_of w.cs) (frame_text (c.copy ∷ [])) w.fills fills,
      )

  -- the run ended at the next message, after this many copies
  pub making_stops : {most : ℕ} {old mid new : S} {before between after : K} {n : ℕ} (cause : Cause) → n < most
      → CopiesSoFar gs gk demands words depth limit old mid before between n
      → NextStops gs gk demands words depth limit mid new between after cause
      → Making gs gk demands words depth limit most old new before after n (Err cause)
  making_stops cause less w s = search (rules, stops_next gs gk demands words depth limit)

  -- as many copies were put as are allowed
  pub making_ends : {most : ℕ} {old mid new : S} {before after : K} {n : ℕ} {end : Result (Unit {0}) Cause} → n ≡ most
      → CopiesSoFar gs gk demands words depth limit old mid before after n
      → OnOk end (EndsStream gs mid new) → IfErr end (λ cause. EndStops gs limit mid new cause)
      → Making gs gk demands words depth limit most old new before after most end
  making_ends e w ok err = search (rules, stops_end gs gk demands words depth limit)

  -- the output failed as it was finished
  pub made_spoiled : {most : ℕ} {old new : S} {before between after : K} {n : ℕ} (end : Result (Unit {0}) Cause) {out : OutFault} → is_unfinished end ≡ true
      → Making gs gk demands words depth limit most old new before between n end
      → (gk.closed after ≡ true) × Begins (gk.text between []) (gk.taken after)
      → Blames gk between after (sink_fault_of out)
      → Made gs gk demands words depth limit most old new before after n (Err (Output out))
  made_spoiled end e w o b = search (rules, ends_before gs gk demands words depth limit, spoils_last)
