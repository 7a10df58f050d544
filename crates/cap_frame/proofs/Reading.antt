-- What reading a message says, put together from what its steps say.
use Rattle.cap_spec.proofs.ProofNames.{Bool, Err, IfErr, IfOk, IfSome, List, None, Ok, OnOk, OnSome, Option, Result, Some}
use Rattle.cap_spec.proofs.ProofNames.{[], false, length, min, option_to_list, subst, sum, sym, true, ℕ, ◌+◌, ◌-◌, ◌^◌}
use Rattle.cap_spec.proofs.ProofNames.{◌∷◌, ◌≡◌, ◌≤◌, Consumes, joined, sizes_of, rules}
use Rattle.cap_words.specs.declared.sources.SourceFault.TheVariants.{Spent}
use Rattle.cap_frame.specs.FrameNames.{SourceFault, ReadsNext, TakesFrame, Faults, TakesTable, frame_fault_of, IsUsable}
use Rattle.cap_frame.specs.FrameNames.{ReadsInput, Stops, Takes, FrameFault}
use Rattle.cap_frame.specs.Reading.{ReadsFrame}
use Rattle.cap_frame.specs.declared.fault.FrameFault.TheVariants.{Memory}
use Rattle.cap_frame.proofs.After.{after_contents, after_message}
use Rattle.cap_frame.proofs.Converse.{decides}
use Rattle.cap_frame.proofs.Taking.{reads_both, reads_none, reads_one, takes_one, usable_both}
use Rattle.cap_words.specs.declared.sources.WordSource as source

module _ {X : Type 0} (g : source.Ghosts X) (limit : ℕ) (old mid new : X) where
  -- two steps without a fault
  works_after : (r : Result Bool FrameFault) → IsUsable g old mid → OnOk r (IsUsable g mid new) → OnOk r (IsUsable g old new)
  works_after r u w = search (rules, usable_both)

  -- a source that gave something has not ended or failed before
  pub next_after : (r : Result Bool FrameFault) → (g.ended old ≡ true → ⊥) → (g.failed old ≡ true → ⊥) → IsUsable g old mid → ReadsInput g old mid
      → ReadsInput g mid new → OnOk r (IsUsable g mid new) → IfErr r (Faults g limit old new) → (r ≡ Ok false → ⊥) → ReadsNext g limit old new r
  next_after r ended failed usable before reads works err some = search (rules, works_after, reads_both)

  -- so has one that gave a table
  pub next_later : (r : Result Bool FrameFault) → ReadsNext g limit old mid (Ok true) → ReadsInput g mid new → OnOk r (IsUsable g mid new)
      → IfErr r (Faults g limit old new) → (r ≡ Ok false → ⊥) → ReadsNext g limit old new r
  next_later r n reads works err some = search (rules, next_after)

module _ {X : Type 0} (g : source.Ghosts X) where
  -- The source gave this word, so it has not ended or failed before.
  pub record Gave (old new : X) (word : ℕ) : Type 0 where
    pub takes : Takes g old new (word ∷ [])
    pub usable : IsUsable g old new
    pub reads : ReadsInput g old new
    pub going : g.ended old ≡ true → ⊥
    pub working : g.failed old ≡ true → ⊥

  -- as the clauses of `next` say
  pub gave : (old new : X) (word : ℕ) (r : Result (Option ℕ) SourceFault) → r ≡ Ok (Some word)
      → IfOk r (λ o. Consumes (g.words old) (g.words new) (option_to_list o))
      → IfOk r (λ o. IfSome o (λ _. OnSome (g.words old) ((g.is_cut new ≡ g.is_cut old) × (g.places old ≡ g.place new ∷ g.places new))))
      → (g.ended old ≡ true → (r ≡ Ok None) × (new ≡ old)) → (g.failed old ≡ true → (r ≡ Err Spent) × (new ≡ old))
      → (bs : List ℕ) × Consumes (g.unread old) (g.unread new) bs × (g.place new ≡ min (g.place old + length bs) (2 ^ 64 - 1))
      → OnOk r (IsUsable g old new) → Gave old new word
  gave old new word r e words places stays good reads ok = search (rules, takes_one, reads_one)

  -- what follows it
  pub next_first : (limit : ℕ) (old mid new : X) (word : ℕ) (r : Result Bool FrameFault) → Gave old mid word → ReadsInput g mid new
      → OnOk r (IsUsable g mid new) → IfErr r (Faults g limit old new) → (r ≡ Ok false → ⊥) → ReadsNext g limit old new r
  next_first limit old mid new word r f reads works err some = search (rules, next_after)

module _ {X : Type 0} (g : source.Ghosts X) {is : List (List ℕ) → Type 0} {limit : ℕ} {old new : X} where
  -- what follows where the words are known
  pub read_frame : (r : Result Bool FrameFault) → (r ≡ Ok true → (m : List (List ℕ)) × TakesFrame g limit old new m × is m)
      → ReadsNext g limit old new r → ReadsFrame g is limit old new r
  read_frame r s n = record { message = s; next = n; decides = decides g is limit old new r s n }

  -- there was no message
  pub no_frame : (r : Result Bool FrameFault) → (r ≡ Ok true → ⊥) → ReadsNext g limit old new r → ReadsFrame g is limit old new r
  no_frame r h n = read_frame r (λ e. absurd (h e)) n

  -- there was no memory after a table
  pub no_memory : (sizes : List ℕ) → ReadsNext g limit old new (Ok true) → TakesTable g old new sizes → sum sizes ≤ limit
      → ReadsFrame g is limit old new (Err Memory)
  no_memory sizes n table within = search (rules, no_frame, next_later, reads_none)

module _ {X : Type 0} (g : source.Ghosts X) {is : List (List ℕ) → Type 0} {limit : ℕ} {old mid new : X} (sizes : List ℕ) where
  -- the contents after a table were read
  pub frame_taken : (m : List (List ℕ)) → ReadsNext g limit old mid (Ok true) → TakesTable g old mid sizes → sum sizes ≤ limit
      → Takes g mid new (joined m) → sizes_of m ≡ sizes → IsUsable g mid new → ReadsInput g mid new → is m → ReadsFrame g is limit old new (Ok true)
  frame_taken m n table within takes e works reads i = search (rules, after_message g old mid new sizes m table takes e, read_frame, next_later g limit old mid new (Ok true) n reads works tt (λ h. absurd (cc)))

  -- the source stopped inside them
  pub frame_stopped : (fault : SourceFault) (f : FrameFault) → f ≡ frame_fault_of fault → ReadsNext g limit old mid (Ok true) → TakesTable g old mid sizes
      → sum sizes ≤ limit → Stops g (sum sizes) mid new fault → ReadsInput g mid new → ReadsFrame g is limit old new (Err f)
  frame_stopped fault f e n table within stops reads =
      let faults = subst (Faults g limit old new) (sym e) (after_contents g limit old mid new sizes fault table n.works within stops) in
      no_frame g (Err f) (λ i. absurd (cc)) (next_later g limit old mid new (Err f) n reads tt faults (λ i. absurd (cc)))
