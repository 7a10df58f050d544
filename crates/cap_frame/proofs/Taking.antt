-- Words taken from a source in several calls.
use Rattle.cap_spec.proofs.ProofNames.{Bool, IfSome, List, OnSome, Option, Some, [], ap, arith, drop, drop-drop}
use Rattle.cap_spec.proofs.ProofNames.{false, length, length-append, min, refl, suc, sym, ℕ, ◌++◌, ◌+◌, ◌-◌, ◌<◌}
use Rattle.cap_spec.proofs.ProofNames.{◌^◌, ◌∙◌, ◌∷◌, ◌≡◌, ◌≤◌, Consumes-nil, Consumes, rules}
use Rattle.cap_words.specs.declared.sources.SourceFault.{SourceFault}
use Rattle.cap_words.specs.declared.sources.SourceFault.TheVariants.{Truncated}
use Rattle.cap_words.proofs.Filling.{reads_both as both_read, reads_one as one_read, takes_both as both_taken}
use Rattle.cap_words.proofs.Filling.{takes_one as one_taken}
use Rattle.cap_words.proofs.Pieces.{on_some}
use Rattle.cap_frame.specs.Taking.{IsOver, IsUsable, ReadsInput, Stops, Takes}
use Rattle.cap_words.specs.declared.sources.WordSource as source

-- the source ended after these words and fewer than n more
pub short_both : (a b : Option (List ℕ)) (taken : List ℕ) (n byte p q : ℕ) (ps qs : List ℕ) (P : Type 0)
    → Consumes a b taken
    → OnSome a (P × (q ∷ qs ≡ drop (length taken) (p ∷ ps)))
    → IfSome b (λ ws. (length ws < n) × (drop (length ws) qs ≡ byte ∷ []))
    → IfSome a (λ ws. (length ws < length taken + n) × (drop (length ws) ps ≡ byte ∷ []))
short_both (Some x) (Some y) taken n byte p q ps qs P t f s =
    let l : length x ≡ length taken + length y = ap length t ∙ length-append taken y in
    let k : length taken + suc (length y) ≡ suc (length x) = omega arith in (
      omega (arith, s.0),
      ap (λ n. drop n (p ∷ ps)) (sym k)
          ∙ (sym (drop-drop (suc (length y)) (length taken) (p ∷ ps)) ∙ (ap (drop (suc (length y))) (sym f.1) ∙ s.1)),
    )
short_both a b taken n byte p q ps qs P t f s = search rules

-- how the input ends is as it was before words were taken
pub over_both : {X : Type 0} (g : source.Ghosts X) (a b : Option (List ℕ)) (taken : List ℕ) (c d : Bool) (new : X) (P : Type 0)
    → Consumes a b taken → OnSome a ((d ≡ c) × P) → OnSome b (IsOver g d new) → OnSome a (IsOver g c new)
over_both g a b taken c d new P t f s = search rules

-- fewer than m words are fewer than n
pub short_weaker : (o : Option (List ℕ)) (m n : ℕ) (ps : List ℕ) (byte : ℕ) → m ≤ n
    → IfSome o (λ ws. (length ws < m) × (drop (length ws) ps ≡ byte ∷ []))
    → IfSome o (λ ws. (length ws < n) × (drop (length ws) ps ≡ byte ∷ []))
short_weaker o m n ps byte h s = search rules

module _ {X : Type 0} (g : source.Ghosts X) where
  -- no words
  pub takes_none : (s : X) → Takes g s s []
  takes_none s = record { consumed = Consumes-nil (g.words s); goes_on = on_some (g.words s) _ (refl, refl) }

  -- the next word
  pub takes_one : (old new : X) (word : ℕ) → Consumes (g.words old) (g.words new) (word ∷ [])
      → OnSome (g.words old) ((g.is_cut new ≡ g.is_cut old) × (g.places old ≡ g.place new ∷ g.places new)) → Takes g old new (word ∷ [])
  takes_one old new word taken on = one_taken word taken on

  -- no bytes
  pub reads_none : (s : X) → ReadsInput g s s
  reads_none s = record { bytes = []; lost = Consumes-nil (g.unread s); counted = omega arith }

  -- those of one call
  pub reads_one : (old new : X) → (bs : List ℕ) × Consumes (g.unread old) (g.unread new) bs × (g.place new ≡ min (g.place old + length bs) (2 ^ 64 - 1))
      → ReadsInput g old new
  reads_one old new read = one_read read

  -- some bytes, and then others
  pub reads_both : (old mid new : X) → ReadsInput g old mid → ReadsInput g mid new → ReadsInput g old new
  reads_both old mid new first second = both_read first second

  -- some words, and then others
  pub takes_both : (old mid new : X) (taken own : List ℕ) → Takes g old mid taken → Takes g mid new own → Takes g old new (taken ++ own)
  takes_both old mid new taken own first second = both_taken first second

  -- two calls without a fault
  pub usable_both : (old mid new : X) → IsUsable g old mid → IsUsable g mid new → IsUsable g old new
  usable_both old mid new a b = record { usable = a.usable; still = b.still; none_failed = b.none_failed ∙ a.none_failed }

  -- the source stopped where n words were needed after these
  pub stops_later : (old mid new : X) (taken : List ℕ) (n : ℕ) (fault : SourceFault) → Takes g old mid taken → IsUsable g old mid → Stops g n mid new fault
      → Stops g (length taken + n) old new fault
  stops_later old mid new taken n (Truncated byte) t a s = record {
    short = short_both (g.words old) (g.words mid) taken n byte (g.place old) (g.place mid) (g.places old) (g.places mid)
        (g.is_cut mid ≡ g.is_cut old) t.consumed t.goes_on s.short;
    place = s.place;
    usable = a.usable;
    none_failed = s.none_failed ∙ a.none_failed;
    over = s.over;
    how = over_both g (g.words old) (g.words mid) taken (g.is_cut old) (g.is_cut mid) new _ t.consumed t.goes_on s.how;
  }
  stops_later old mid new taken n fault t a s = search rules

  -- more words were needed
  pub stops_weaker : (old new : X) (m n : ℕ) (fault : SourceFault) → m ≤ n → Stops g m old new fault → Stops g n old new fault
  stops_weaker old new m n fault h s = search (rules, short_weaker)

  -- These words were taken, and no fault came.
  pub record Took (old now : X) (words : List ℕ) : Type 0 where
    pub takes : Takes g old now words
    pub reads : ReadsInput g old now
    pub usable : IsUsable g old now

  -- none yet
  pub took_none : (s : X) → g.broken s ≡ false → Took s s []
  took_none s u = record { takes = takes_none s; reads = reads_none s; usable = record { usable = u; still = u; none_failed = refl } }

  -- and then others
  pub took_more : (old now new : X) (words own all : List ℕ) → all ≡ words ++ own → Took old now words → Takes g now new own → ReadsInput g now new
      → IsUsable g now new → Took old new all
  took_more old now new words own all e w t r u = search (rules, takes_both old now new words own w.takes t, reads_both old now new w.reads r, usable_both old now new w.usable u)

  -- the source stopped before there were m
  pub took_stop : (old now new : X) (words : List ℕ) (n m : ℕ) (fault : SourceFault) → length words + n ≤ m → Took old now words → Stops g n now new fault
      → Stops g m old new fault
  took_stop old now new words n m fault h w s = search (rules, stops_weaker, stops_later)
