-- Words that are read and put one after the other.
use Rattle.std.proofs.KnownBytes.{Keeps-refl}
use Rattle.cap_spec.proofs.ProofNames.{Err, List, Ok, OnSome, Result, [], append-nil, append_assoc, false}
use Rattle.cap_spec.proofs.ProofNames.{inl, length-append, refl, true, ℕ, ◌++◌, ◌+◌, ◌<◌, ◌∷◌, ◌≡◌}
use Rattle.cap_spec.proofs.ProofNames.{Keeps-trans, false≢true, Consumes, Keeps, rules}
use Rattle.cap_words.specs.ByteIo.{DeviceFails, AllocationFails, WasBroken, Works}
use Rattle.cap_words.specs.Sinks.{Begins, StoppedPutting, sink_fault_of}
use Rattle.cap_words.specs.declared.sinks.SinkFault.TheVariants.{Device, Memory, Spent}
use Rattle.cap_words.proofs.Known.{begins_kept}
use Rattle.cap_frame.specs.Putting.{Blames, Halts}
use Rattle.cap_frame.proofs.Putting.{blames_later}
use Rattle.cap_frame.proofs.Taking.{takes_both, takes_none, takes_one}
use Rattle.cap_text.specs.declared.fault.CopyFault.TheVariants.{Output}
use Rattle.cap_run.specs.RunNames.{OutFault, SinkFault, CopyFault, Source, TooManyWords, Transcodes, Finishes}
use Rattle.cap_run.specs.RunNames.{PutsWords, ReadsWords, StopsMidway, Transcoded}
use Rattle.cap_run.specs.PuttingEnds.{StopsAt, StopsPutting, is_open}
use Rattle.cap_run.specs.Transcoding.{Spoils, StopsFinishing}
use Rattle.cap_run.proofs.Streams.{all_taken}
use Rattle.cap_words.specs.declared.sinks.WordSink as sink
use Rattle.cap_words.specs.declared.sources.WordSource as source

module _ {S : Type 0} (gs : source.Ghosts S) where
  -- no words
  pub gives_none : (s : S) → ReadsWords gs s s []
  gives_none s = record { takes = takes_none gs s; usable = inl refl; broken = refl; failures = refl }

  -- the next word
  pub gives_one : (old new : S) (word : ℕ) → Consumes (gs.words old) (gs.words new) (word ∷ [])
      → OnSome (gs.words old) ((gs.is_cut new ≡ gs.is_cut old) × (gs.places old ≡ gs.place new ∷ gs.places new))
      → Works (gs.broken old) (gs.broken new) (gs.failures old) (gs.failures new) → ReadsWords gs old new (word ∷ [])
  gives_one old new word c f w = search (rules, takes_one)

  -- some words, and then others
  pub gives_both : (old mid new : S) (a b : List ℕ) → ReadsWords gs old mid a → ReadsWords gs mid new b → ReadsWords gs old new (a ++ b)
  gives_both old mid new a b p q = search (rules, takes_both gs old mid new a b p.takes q.takes)

module _ {K : Type 0} (gk : sink.Ghosts K) where
  -- no words
  pub fills_none : (k : K) → PutsWords gk k k []
  fills_none k = record { put = λ ws. Keeps-refl (gk.text k ws); closed = refl; broken = refl; failures = refl }

  -- some words, and then others
  pub fills_both : (old mid new : K) (a b : List ℕ) → PutsWords gk old mid a → PutsWords gk mid new b → PutsWords gk old new (a ++ b)
  fills_both old mid new a b p q = search (rules, append_assoc, Keeps-trans)

  -- a fault at the next word, after others
  pub stopped_after : (old mid new : K) (own : List ℕ) (word : ℕ) (fault : SinkFault) → PutsWords gk old mid own → Halts gk mid new (word ∷ []) fault
      → StoppedPutting gk.text gk.taken old new (own ++ word ∷ [])
  stopped_after old mid new own word fault f h = search (rules, append_assoc, begins_kept)

module _ {K : Type 0} (gk : sink.Ghosts K) where
  -- the sink was finished after these words
  pub finishes_after : (old mid new : K) (own : List ℕ) → PutsWords gk old mid own → Keeps (gk.text mid []) (gk.taken new)
      → (gk.closed mid ≡ false) × (gk.closed new ≡ true) × (gk.failures new ≡ gk.failures mid) → Finishes gk old new own
  finishes_after old mid new own f k o = search (rules, append-nil, Keeps-trans)

  -- what the answer of a call to the sink says of the output
  pub blames_of : (old new : K) (r : Result (Unit {0}) SinkFault) (fault : SinkFault) → r ≡ Err fault
      → (r ≡ Err Device → DeviceFails (gk.broken old) (gk.failures old) (gk.failures new))
      → (r ≡ Err Memory → AllocationFails (gk.broken old) (gk.failures old) (gk.failures new))
      → (r ≡ Err Spent → WasBroken (gk.broken old) (gk.broken new) (gk.failures old) (gk.failures new) × Keeps (gk.taken old) (gk.taken new))
      → Blames gk old new fault
  blames_of old new r x4 e d m s = search rules

  -- the output failed after these words, as the sink was finished
  pub spoils_last : (old mid new : K) (own : List ℕ) (out : OutFault) → PutsWords gk old mid own
      → (gk.closed new ≡ true) × Begins (gk.text mid []) (gk.taken new)
      → Blames gk mid new (sink_fault_of out) → Spoils gk old new own out
  spoils_last old mid new own out f e b = search (rules, blames_later, append-nil, begins_kept)

module _ {S K : Type 0} (gs : source.Ghosts S) (gk : sink.Ghosts K) where
  -- the sink was finished after the words that were put
  pub copied_finished : (at_once most : ℕ) (old new : S) (before between after : K) (r : Result ℕ CopyFault)
      → StopsPutting gs gk at_once most old new before between r
      → is_open r ≡ true → Keeps (gk.text between []) (gk.taken after) → (gk.closed between ≡ false)
      × (gk.closed after ≡ true) × (gk.failures after ≡ gk.failures between)
      → Transcoded gs gk at_once most old new before after r
  copied_finished at_once most old new before between after (Ok n) s h k o = search (rules, all_taken, finishes_after gk before between after s.2.own s.2.fills k o)
  copied_finished at_once most old new before between after (Err TooManyWords) s h k o =
      search (rules, gives_both gs old s.0 new s.2.own (s.1 ∷ []) s.2.gives s.3, finishes_after gk before between after s.2.own s.2.fills k o)
  copied_finished at_once most old new before between after (Err (Source fault)) s h k o = search (rules, finishes_after)
  copied_finished at_once most old new before between after (Err (Output fault)) s h k o = absurd (false≢true h)

  -- the output failed before the sink was finished
  pub copied_failed : (at_once most : ℕ) (old new : S) (before after : K) (r : Result ℕ CopyFault) → is_open r ≡ false
      → StopsPutting gs gk at_once most old new before after r → Transcoded gs gk at_once most old new before after r
  copied_failed at_once most old new before after x7 e s = search (rules, false≢true)

  -- the output failed as the sink was finished
  pub copied_spoiled : (at_once most : ℕ) (old new : S) (before between after : K) (r : Result ℕ CopyFault)
      (out : OutFault) → StopsPutting gs gk at_once most old new before between r
      → is_open r ≡ true → (gk.closed after ≡ true) × Begins (gk.text between []) (gk.taken after) → Blames gk between after (sink_fault_of out)
      → StopsFinishing gs gk most old new before after out
  copied_spoiled at_once most old new before between after (Ok n) out s h e b = search (rules, spoils_last gk before between after s.2.own out s.2.fills e b)
  copied_spoiled at_once most old new before between after (Err TooManyWords) out s h e b = search (rules, spoils_last gk before between after s.2.own out s.2.fills e b)
  copied_spoiled at_once most old new before between after (Err (Source fault)) out s h e b = search (rules, spoils_last gk before between after s.3.own out s.3.fills e b)
  copied_spoiled at_once most old new before between after (Err (Output fault)) out s h e b = absurd (false≢true h)

module _ {S K : Type 0} {gs : source.Ghosts S} {gk : sink.Ghosts K} where
  -- one more word was read and put
  pub copies_more : {old now new : S} {before between after : K} {n word : ℕ}
      → Transcodes gs gk old now before between n → ReadsWords gs now new (word ∷ []) → PutsWords gk between after (word ∷ [])
      → Transcodes gs gk old new before after (n + 1)
  copies_more {old} {now} {new} {before} {between} {after} {word = word} c g f =
      search (rules, length-append c.own (word ∷ []), gives_both gs old now new c.own (word ∷ []) c.gives g, fills_both gk before between after c.own (word ∷ []) c.fills f)

  -- one more word was read, and couldn't be put
  pub copies_stops : {most : ℕ} {old now new : S} {before between after : K} {n word : ℕ} {out : OutFault} → n < most
      → Transcodes gs gk old now before between n
      → ReadsWords gs now new (word ∷ []) → Halts gk between after (word ∷ []) (sink_fault_of out) → StopsAt gs gk most old new before after out
  copies_stops {old = old} {now = now} {new = new} {between = between} {word = word} less c g h = search (rules, gives_both gs old now new c.own (word ∷ []) c.gives g)

  -- the output failed at a word
  pub copied_stopped : {at_once most : ℕ} {old new : S} {before after : K} {out : OutFault} → 0 < at_once → StopsAt gs gk most old new before after out
      → StopsMidway gs gk at_once most old new before after out
  copied_stopped some s = search (rules, length-append, stopped_after)
