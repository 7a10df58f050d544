-- What is known of the words of a source decides how an engine ends, faults of devices, of the output and of memory aside.
use Rattle.cap_spec.specs.Endings.{none}
use Rattle.cap_spec.proofs.Frames.Streams.{StreamNext, stream_front, stream_next}
use Rattle.cap_spec.proofs.Lemmas.{all_back, one_stream}
use Rattle.cap_spec.proofs.ProofNames.{Bool, Err, List, Ok, OnSome, Option, Result, Some, [], ap, arith, false, inl}
use Rattle.cap_spec.proofs.ProofNames.{inr, length, length-append, subst, sum, sym, ℕ, ◌++◌, ◌∙◌, ◌∷◌, ◌≡◌, ◌≤◌, ◌⊎◌}
use Rattle.cap_spec.proofs.ProofNames.{Consumes, AllByRecursion, ⊤, BeginsMessage, message, Stream, sizes_of, rules}
use Rattle.cap_frame.specs.ReadingFaults.{Answered, Faults}
use Rattle.cap_frame.specs.declared.fault.FrameFault.{FrameFault}
use Rattle.cap_frame.proofs.Converse.{known_still, same_some, reports_fault, settled as settled_by}
use Rattle.cap_run.specs.RunNames.{Cause, TooManyMessages, RunFault, ReachesEnd, StopsEarly}
use Rattle.cap_run.specs.RunNames.{Appended, RunStops, Settled, SettledAt, ReadsStream, Reports, Reported}
use Rattle.cap_run.specs.Reporting.{PlacedReports, ReportsAt}
use Rattle.cap_run.specs.RunNames.{messages_of, outcome_of, texts_of, Outcome}
use Rattle.cap_run.proofs.Reporting.{length-messages_of}
use Rattle.cap_words.specs.declared.byte_io.ByteOut as output
use Rattle.cap_words.specs.declared.sources.WordSource as source

-- a fault that can't have come says anything
pub answered_absurd : (fault : FrameFault) (P Q : Type 0) → (Q → ⊥) → Answered {A = Bool} (Err fault) Q → Answered {A = Outcome} (Err fault) P
answered_absurd k e g h a = search rules

-- what is said of a known value
pub on_known : {A : Type 0} (o : Option A) (x : A) (P : Type 0) → o ≡ Some x → OnSome o P → P
on_known k x g e h = search rules

module _ {S : Type 0} (g : source.Ghosts S) (limit : ℕ) where
  -- where the words are a stream, no message within the limit is refused
  pub no_fault : (mid new : S) (rest : List ℕ) (more : List (List (List ℕ))) (fault : FrameFault) (P : Type 0)
      → g.words mid ≡ Some rest → g.is_cut mid ≡ false → Stream rest more
      → AllByRecursion (λ m. sum (sizes_of m) ≤ limit) more → Faults g limit mid new fault → Answered {A = Outcome} (Err fault) P
  no_fault mid new rest more fault P w c s l h = next (stream_next rest more s)
    where
      next : (rest ≡ []) ⊎ StreamNext rest more → Answered {A = Outcome} (Err fault) P
      next (inl e) =
          answered_absurd fault P _ (λ a. (cc))
          (settled_by (λ m. ⊤) limit rest (g.is_cut mid) (g.places mid) (g.words new) (Err fault) none (e, c)
          (reports_fault g (λ m. ⊤) limit mid new fault rest w h))
      next (inr t) =
          let within = (subst (AllByRecursion (λ m. sum (sizes_of m) ≤ limit)) t.messages l).0 in
          let begins : BeginsMessage limit rest =
          record {
            own = t.own;
            rest = t.rest;
            message = t.message;
            whole = t.whole;
            frames = t.frames;
            within =
                within;
          } in
          answered_absurd fault P _ (λ a. let e = a.0 in cc)
          (settled_by (λ m. ⊤) limit rest (g.is_cut mid) (g.places mid) (g.words new) (Err fault) message begins
          (reports_fault g (λ m. ⊤) limit mid new fault rest w h))

module _ {S : Type 0} (gs : source.Ghosts S) (limit : ℕ) (old mid new : S) (read : List (List (List ℕ))) (own : List ℕ) (ms : List (List (List ℕ))) where
  -- a stream of which some messages were read goes on with the others
  pub reads_front : gs.words old ≡ Some own → Stream own ms → ReadsStream gs limit old mid read
      → (rest : List ℕ) × (gs.words mid ≡ Some rest) × ((more : List (List (List ℕ))) × (ms ≡ read ++ more) × Stream rest more)
  reads_front w s reads =
      let here = known_still own reads.own (gs.words mid) (subst (λ (o : Option (List ℕ)). Consumes o (gs.words mid) reads.own) w reads.takes.consumed) in
      (here.0, here.1, stream_front reads.own here.0 read ms reads.stream (subst (λ (ws : List ℕ). Stream ws ms) here.2 s))

  -- a message that was read after them is the next
  pub reads_next : (m : List (List ℕ)) → gs.words old ≡ Some own → Stream own ms → ReadsStream gs limit old mid read → ReadsStream gs limit mid new (m ∷ [])
      → (more : List (List (List ℕ))) × (ms ≡ read ++ (m ∷ more))
  reads_next m w s reads last =
      let front = reads_front w s reads in
      let there = known_still front.0 last.own (gs.words new) (subst (λ (o : Option (List ℕ)). Consumes o (gs.words new) last.own) front.1
      last.takes.consumed) in
      let next = stream_front last.own there.0 (m ∷ []) front.2.0 last.stream (subst (λ (ws : List ℕ). Stream ws front.2.0) there.2 front.2.2) in
      (next.0, front.2.1 ∙ ap (λ (xs : List (List (List ℕ))). read ++ xs) next.1)

  -- and none is one too many
  pub none_over : (m : List (List ℕ)) → gs.words old ≡ Some own → Stream own ms → ReadsStream gs limit old mid read
      → ReadsStream gs limit mid new (m ∷ []) → length ms ≤ length read → ⊥
  none_over m w s reads last few = let next = reads_next m w s reads last in omega (arith, few, ap length next.1, length-append read (m ∷ next.0))

  -- nor is one within the limit refused
  pub none_faulted : (fault : FrameFault) (P : Type 0) → gs.words old ≡ Some own → gs.is_cut old ≡ false → Stream own ms
      → AllByRecursion (λ m. sum (sizes_of m) ≤ limit) ms
      → ReadsStream gs limit old mid read → Faults gs limit mid new fault → Answered {A = Outcome} (Err fault) P
  none_faulted fault P w c s l reads stops =
      let front = reads_front w s reads in
      let cut = on_known (gs.words old) own _ w reads.takes.goes_on in
      no_fault gs limit mid new front.0 front.2.0 fault P front.1 (cut.0 ∙ c) front.2.2
      (all_back (λ m. sum (sizes_of m) ≤ limit) read front.2.0 (subst (AllByRecursion (λ m. sum (sizes_of m) ≤ limit)) front.2.1 l)) stops

module _ {S O : Type 0} (gs : source.Ghosts S) (go : output.Ghosts O) (reports : Reports) (limit most : ℕ) (old new : S) (before after : O) where
  -- after some messages of the stream, no fault comes of the others
  pub settled_after : (allocates : List (List ℕ) → Type 0) (mid : S) (ts : List Reported) (own : List ℕ)
      (ms : List (List (List ℕ))) (cause : Cause) (P : Type 0) → gs.words old ≡ Some own → gs.is_cut old ≡ false
      → Stream own ms
      → AllByRecursion (λ m. sum (sizes_of m) ≤ limit) ms → length ms ≤ most
      → ReadsStream gs limit old mid (messages_of ts) → RunStops gs go reports allocates limit most ts mid new before
      after cause → SettledAt cause P
  settled_after allocates mid ts own ms TooManyMessages P w c s l few reads stops =
      absurd (none_over gs limit old mid new (messages_of ts) own ms stops.2.0 w s reads stops.2.1 (omega (arith, few, stops.0, length-messages_of ts)))
  settled_after allocates mid ts own ms cause P w c s l few reads stops = search (rules, none_faulted)

module _ {S O : Type 0} (gs : source.Ghosts S) (go : output.Ghosts O) (counts : Bool) (reports : PlacedReports) (limit most : ℕ)
    (old new : S) (before after : O) where
  -- each of these messages was reported of, and the stream ended
  abbrev pub ReportedEach : List (List (List ℕ)) → Result Outcome RunFault → Type 0
  ReportedEach ms r = (ts : List Reported) × (messages_of ts ≡ ms) × ReportsAt counts reports 0 0 ts
      × Appended go before after (texts_of ts) × (r ≡ Ok (outcome_of ts))

  -- a stream of messages within the limits is read to its end
  pub settled : (allocates : List (List ℕ) → Type 0) (r : Result Outcome RunFault) (own : List ℕ)
      (ms : List (List (List ℕ))) → ReachesEnd gs go counts reports limit most old new before after r
      → StopsEarly gs go counts reports limit most old new before after allocates r → gs.words old ≡ Some own
      → gs.is_cut old ≡ false → Stream own ms
      → AllByRecursion (λ m. sum (sizes_of m) ≤ limit) ms → length ms ≤ most → Settled r (ReportedEach ms r)
  settled allocates (Ok outcome) own ms end fault w c s l few =
      search (rules, on_known (gs.words old) own _ w end.1.all, same_some own end.1.own (sym w ∙ (on_known (gs.words old) own _ w end.1.all).0), one_stream)
  settled allocates (Err fault) own ms end f w c s l few = search (rules, settled_after)
