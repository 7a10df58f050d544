-- What is known of the words of a source decides how the engine ends that puts copies, faults of devices, of the output and
-- of memory aside.
use Rattle.cap_spec.specs.declared.CanonFault.TheVariants.{Memory}
use Rattle.cap_spec.proofs.Lemmas.{all_back, one_copy, one_stream, strict_not_fault, within_not_refused}
use Rattle.cap_spec.proofs.ProofNames.{Err, IfErr, IfOk, List, Ok, Result, Some, [], ap, arith, false, length, refl, subst}
use Rattle.cap_spec.proofs.ProofNames.{sum, sym, ℕ, ◌++◌, ◌∙◌, ◌∷◌, ◌≡◌, ◌≤◌, length-map, AllByRecursion, HasCopy, Stream}
use Rattle.cap_spec.proofs.ProofNames.{frame_text, sizes_of, rules}
use Rattle.cap_frame.proofs.Converse.{same_some}
use Rattle.cap_walk.specs.Demands.{words_under}
use Rattle.cap_canon.proofs.Copies.{cap_no_copy}
use Rattle.cap_text.specs.declared.fault.Cause.TheVariants.{Output, Refused, Memory as no_marks}
use Rattle.cap_run.specs.Canons.{CanonStops}
use Rattle.cap_run.specs.Demanding.{IsNotStrict}
use Rattle.cap_run.specs.RunNames.{HasCapability, StrictRefusal, Pointer, Demands, Cause, Canon, Frame}
use Rattle.cap_run.specs.RunNames.{NotStrict, TooManyMessages, RunFault, AreCanonised, Canonised, IsCanonised}
use Rattle.cap_run.specs.RunNames.{MakesCopiesUnder, canonised, copies_of, IsStrictUnder, Made, Settled, SettledAt}
use Rattle.cap_run.specs.RunNames.{ReadsStream, ReadsToEnd, Finishes, Outcome}
use Rattle.cap_run.proofs.Settling.{none_faulted, none_over, on_known, reads_next}
use Rattle.cap_run.proofs.Streams.{reads_all}
use Rattle.cap_words.specs.declared.sinks.WordSink as sink
use Rattle.cap_words.specs.declared.sources.WordSource as source

-- it is accepted within these limits, and has a copy
abbrev HasOne : Demands → ℕ → ℕ → List (List ℕ) → Type 0
HasOne demands words depth m = (copy : List ℕ) × IsCanonised demands words depth (record { message = m; copy = copy })

each_has : (demands : Demands) (words depth : ℕ) (cs : List Canonised) → AreCanonised demands words depth cs
    → AllByRecursion (HasOne demands words depth) (canonised cs)
each_has demands words depth [] a = tt
each_has demands words depth (c ∷ cs) a = ((c.copy, a.0), each_has demands words depth cs a.1)

-- a strict message isn't one that isn't
strict_is_strict : (demands : Demands) (m : List (List ℕ)) (words depth : ℕ) (fault : StrictRefusal)
    → IsStrictUnder demands m words depth → ¬ IsNotStrict demands m words depth fault
strict_is_strict demands m words depth (Pointer what seg word pointers) s f =
    strict_not_fault m (words_under demands m words) depth (Pointer what seg word pointers) (s f.0) f.1
strict_is_strict demands m words depth fault s f = search rules

-- there are as many messages as copies
length-canonised : (cs : List Canonised) → length (canonised cs) ≡ length cs
length-canonised cs = length-map cs (λ c. c.message)

-- the same messages have the same copies
same_copies : (demands : Demands) (words depth : ℕ) (cs ds : List Canonised) → AreCanonised demands words depth cs
    → AreCanonised demands words depth ds
    → canonised cs ≡ canonised ds → copies_of cs ≡ copies_of ds
same_copies demands words depth [] [] a b e = refl
same_copies demands words depth (c ∷ cs) (d ∷ ds) a b e =
    let first : c.message ≡ d.message = cc in
    let rest : canonised cs ≡ canonised ds = cc in
    let same : c.copy ≡ d.copy = one_copy d.message c.copy d.copy (subst (λ (m : List (List ℕ)). HasCopy m c.copy) first a.0.has_copy) b.0.has_copy in
    ap (λ (copy : List ℕ). frame_text (copy ∷ []) ++ copies_of cs) same
    ∙ ap (λ (xs : List ℕ). frame_text (d.copy ∷ []) ++ xs) (same_copies demands words depth cs ds a.1 b.1 rest)
same_copies demands words depth cs ds a b e = absurd (cc)

module _ {S K : Type 0} (gs : source.Ghosts S) (gk : sink.Ghosts K) (demands : Demands) (words depth limit most : ℕ)
    (old new : S) (before after : K) where
  -- what the engine's clauses say where it ended, and where it didn't
  abbrev pub SaysCopies : Result Outcome RunFault → Type 0
  SaysCopies r = IfOk r (λ outcome. (cs : List Canonised) × ReadsToEnd gs limit old new (canonised cs)
      × AreCanonised demands words depth cs × Finishes gk before after (copies_of cs) × (length cs ≤ most)
      × (outcome ≡ record { messages = length cs; refused = 0; noncanonical = 0 }))

  abbrev pub SaysNoCopies : Result Outcome RunFault → Type 0
  SaysNoCopies r = IfErr r (λ fault. (cs : List Canonised) × (mid : S) × (fault.message ≡ length cs)
      × (length cs ≤ most) × ReadsStream gs limit old mid (canonised cs) × AreCanonised demands words depth cs
      × CanonStops gs gk demands words depth limit most cs mid new before after fault.cause)

  -- a message that was read next, of a stream of messages with copies
  next_has : (mid : S) (cs ds : List Canonised) (own : List ℕ) (m : List (List ℕ)) → gs.words old ≡ Some own
      → Stream own (canonised ds) → AreCanonised demands words depth ds
      → ReadsStream gs limit old mid (canonised cs) → ReadsStream gs limit mid new (m ∷ [])
      → HasOne demands words depth m
  next_has mid cs ds own m w s a reads last = search (rules, reads_next gs limit old mid new (canonised cs) own (canonised ds) m w s reads last, all_back, each_has demands words depth ds a)

  -- after some messages of such a stream, no fault comes of the others
  canon_after : (mid : S) (cs ds : List Canonised) (own : List ℕ) (cause : Cause) (P : Type 0)
      → gs.words old ≡ Some own → gs.is_cut old ≡ false → Stream own (canonised ds)
      → AllByRecursion (λ m. sum (sizes_of m) ≤ limit) (canonised ds) → AreCanonised demands words depth ds
      → length ds ≤ most
      → ReadsStream gs limit old mid (canonised cs)
      → CanonStops gs gk demands words depth limit most cs mid new before after cause → SettledAt cause P
  canon_after mid cs ds own TooManyMessages P w c s l a few reads stops =
      absurd (none_over gs limit old mid new (canonised cs) own (canonised ds) stops.0.1 w s reads stops.0.2
      (omega (arith, few, stops.0.0, length-canonised cs, length-canonised ds)))
  canon_after mid cs ds own (Frame fault) P w c s l a few reads stops = search (rules, none_faulted)
  canon_after mid cs ds own (Output fault) P w c s l a few reads stops = tt
  canon_after mid cs ds own (Refused refusal) P w c s l a few reads stops =
      let h = next_has mid cs ds own stops.0.1 w s a reads stops.0.2 in
      let k = h.1.is_accepted in
      absurd (within_not_refused stops.0.1 (words_under demands stops.0.1 words) depth refusal
      (k.0, h.1.report.charge, h.1.report.depth, k.1.within) stops.0.3)
  canon_after mid cs ds own (NotStrict fault) P w c s l a few reads stops =
      search (
        rules,
        next_has mid cs ds own stops.0.1 w s a reads stops.0.2,
        strict_is_strict demands stops.0.1 words depth fault (next_has mid cs ds own stops.0.1 w s a reads stops.0.2).1.is_strict stops.0.3,
      )
  canon_after mid cs ds own (Canon (HasCapability seg word)) P w c s l a few reads stops = search (rules, next_has mid cs ds own stops.0.1 w s a reads stops.0.3, cap_no_copy)
  canon_after mid cs ds own (Canon Memory) P w c s l a few reads stops = tt
  canon_after mid cs ds own no_marks P w c s l a few reads stops = absurd stops

  -- such a stream is read to its end
  canon_settled : (r : Result Outcome RunFault) (own : List ℕ) (ds : List Canonised) → SaysCopies r → SaysNoCopies r
      → gs.words old ≡ Some own → gs.is_cut old ≡ false → Stream own (canonised ds)
      → AllByRecursion (λ m. sum (sizes_of m) ≤ limit) (canonised ds) → AreCanonised demands words depth ds
      → length ds ≤ most
      → Settled r (Finishes gk before after (copies_of ds) × (r ≡ Ok (record { messages = length ds; refused = 0; noncanonical = 0 })))
  canon_settled (Ok outcome) own ds end fault w c s l a few =
      let all = on_known (gs.words old) own _ w end.1.all in
      let words_same = same_some own end.1.own (sym w ∙ all.0) in
      let same = one_stream own (canonised end.0) (canonised ds) (subst (λ (ws : List ℕ). Stream ws (canonised end.0)) (sym words_same) end.1.stream) s in
      let many : length end.0 ≡ length ds = sym (length-canonised end.0) ∙ (ap length same ∙ length-canonised ds) in (
        subst (Finishes gk before after) (same_copies demands words depth end.0 ds end.2 a same) end.3,
        ap (λ (o : Outcome). Ok o) (end.5 ∙ ap (λ (n : ℕ). record { messages = n; refused = 0; noncanonical = 0 }) many),
      )
  canon_settled (Err fault) own ds end f w c s l a few = canon_after f.1 f.0 ds own fault.cause _ w c s l a few f.4 f.6

module _ {S K : Type 0} {gs : source.Ghosts S} {gk : sink.Ghosts K} {demands : Demands} {words depth limit most : ℕ}
    {old new : S} {before after : K} where
  -- how the run ended says all that is promised of its answer
  pub makes_ok : {n : ℕ} → Made gs gk demands words depth limit most old new before after n (Ok tt)
      → MakesCopiesUnder gs gk demands words depth limit most old new before after
      (Ok (record { messages = n; refused = 0; noncanonical = 0 }))
  makes_ok {n} w =
      let outcome : Outcome = record { messages = n; refused = 0; noncanonical = 0 } in
      let ok : SaysCopies gs gk demands words depth limit most old new before after (Ok outcome) = (
        w.cs,
        reads_all gs limit old w.mid new (canonised w.cs) w.reads w.ends.0,
        w.each,
        w.ends.1,
        omega (arith, w.many, w.few),
        ap (λ (k : ℕ). record { messages = k; refused = 0; noncanonical = 0 }) (sym w.many),
      ) in
      record {
        ok = ok;
        err = tt;
        whole = λ own ds wd c s l a few.
            canon_settled gs gk demands words depth limit most old new before after (Ok outcome) own ds ok tt wd c s l a few;
      }

  pub makes_err : {n : ℕ} {cause : Cause} → Made gs gk demands words depth limit most old new before after n (Err cause)
      → MakesCopiesUnder gs gk demands words depth limit most old new before after
      (Err (record { message = n; cause = cause }))
  makes_err {n} {cause} w =
      let fault : RunFault = record { message = n; cause = cause } in
      let err : SaysNoCopies gs gk demands words depth limit most old new before after (Err fault) =
      (w.cs, w.mid, sym w.many, omega (arith, w.many, w.few), w.reads, w.each, w.ends) in
      record {
        ok = tt;
        err = err;
        whole = λ own ds wd c s l a few.
            canon_settled gs gk demands words depth limit most old new before after (Err fault) own ds tt err wd c s l a few;
      }
