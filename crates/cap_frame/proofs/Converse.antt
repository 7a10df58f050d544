-- What is known of the words of a source decides the result of reading a message, its faults and out of memory aside.
use Rattle.cap_spec.specs.Endings.{none}
use Rattle.cap_spec.proofs.Lemmas.{one_frame, same_table, one_ending}
use Rattle.cap_spec.proofs.ProofNames.{Bool, Err, IfSome, List, Ok, Option, Result, Some, [], ap, arith}
use Rattle.cap_spec.proofs.ProofNames.{drop, false, length, refl, subst, sum, sym, true, ℕ, ◌%◌, ◌++◌, ◌+◌, ◌^◌, ◌∙◌, ◌∷◌}
use Rattle.cap_spec.proofs.ProofNames.{◌≡◌, Consumes, ⊤, BeginsMessage, Ending, EndsIn, GivesTooMany, GivesTooMuch}
use Rattle.cap_spec.proofs.ProofNames.{message, partial, too_large, too_many, IsPartial, rules}
use Rattle.cap_frame.specs.FrameNames.{ReadsNext, TakesFrame, Faults, Takes, FrameFault}
use Rattle.cap_frame.specs.Reading.{Decides}
use Rattle.cap_frame.specs.ReadingFaults.{Answered}
use Rattle.cap_frame.specs.declared.fault.FrameFault.TheVariants.{Device, Memory, Spent, TooLarge, TooManySegments}
use Rattle.cap_frame.specs.declared.fault.FrameFault.TheVariants.{Truncated}
use Rattle.cap_words.specs.declared.sources.WordSource as source

-- known words that were taken from are known still
pub known_still : (ws own : List ℕ) (b : Option (List ℕ)) → Consumes (Some ws) b own → (rest : List ℕ) × (b ≡ Some rest) × (ws ≡ own ++ rest)
known_still ws own b c = search rules

-- the list of a known value
pub same_some : (xs ys : List ℕ) → Some xs ≡ Some ys → xs ≡ ys
same_some xs ys e = cc

module _ (is : List (List ℕ) → Type 0) (limit : ℕ) (ws : List ℕ) (cut : Bool) (places : List ℕ) (left : Option (List ℕ)) where
  -- what a result says of known words, and of those that are left
  abbrev pub Reports : Result Bool FrameFault → Type 0
  Reports (Ok true) = (b : BeginsMessage limit ws) × (left ≡ Some b.rest) × is b.message
  Reports (Ok false) = (ws ≡ []) × (cut ≡ false)
  Reports (Err (TooManySegments count)) = (t : GivesTooMany ws) × (left ≡ Some t.rest) × (count ≡ t.first % 2 ^ 32 + 1)
  Reports (Err (TooLarge words)) = (t : GivesTooMuch limit ws) × (left ≡ Some t.rest) × (words ≡ sum t.sizes)
  Reports (Err (Truncated byte)) = IsPartial limit ws cut × (drop (length ws) places ≡ byte ∷ [])
  Reports (Err Device) = ⊤
  Reports (Err Memory) = ⊤
  Reports (Err Spent) = ⊤

  -- what the result is where the words end so
  abbrev pub Is : (e : Ending) → EndsIn limit ws cut e → Result Bool FrameFault → Type 0
  Is message b r = (r ≡ Ok true) × is b.message × (left ≡ Some b.rest)
  Is none b r = r ≡ Ok false
  Is too_many b r = (r ≡ Err (TooManySegments (b.first % 2 ^ 32 + 1))) × (left ≡ Some b.rest)
  Is too_large b r = (r ≡ Err (TooLarge (sum b.sizes))) × (left ≡ Some b.rest)
  Is partial b r = (byte : ℕ) × (r ≡ Err (Truncated byte)) × (drop (length ws) places ≡ byte ∷ [])

  -- the words end so in no other way
  only : (r : Result Bool FrameFault) (d e : Ending) → EndsIn limit ws cut d → ((h : EndsIn limit ws cut d) → Is d h r) → (h : EndsIn limit ws cut e) → Is e h r
  only r d e k claim h = subst (λ (i : Ending). (h : EndsIn limit ws cut i) → Is i h r) (sym (one_ending limit ws cut d e k h)) claim h

  -- so how they end decides the result
  pub settled : (r : Result Bool FrameFault) (e : Ending) (h : EndsIn limit ws cut e) → Reports r → Answered r (Is e h r)
  settled (Ok true) e h t = only (Ok true) message e t.0 (λ b.
      let same = one_frame t.0.own b.own t.0.rest b.rest t.0.message b.message t.0.frames b.frames (sym t.0.whole ∙ b.whole) in
      (refl, subst is same.1 t.2, t.1 ∙ ap Some same.2)) h
  settled (Ok false) e h t = only (Ok false) none e t (λ b. refl) h
  settled (Err (TooManySegments count)) e h t = only (Err (TooManySegments count)) too_many e t.0 (λ b.
      let same : t.0.first ∷ t.0.rest ≡ b.first ∷ b.rest = sym t.0.whole ∙ b.whole in
      let first : t.0.first ≡ b.first = cc in
      let rest : t.0.rest ≡ b.rest = cc in
      (ap (λ (i : ℕ). Err (TooManySegments i)) (t.2 ∙ ap (λ (i : ℕ). i % 2 ^ 32 + 1) first), t.1 ∙ ap Some rest)) h
  settled (Err (TooLarge words)) e h t = only (Err (TooLarge words)) too_large e t.0 (λ b.
      let same = same_table t.0.table b.table t.0.rest b.rest t.0.sizes b.sizes t.0.is_table b.is_table (sym t.0.whole ∙ b.whole) in
      (ap (λ (n : ℕ). Err (TooLarge n)) (t.2 ∙ ap sum same.1), t.1 ∙ ap Some same.2)) h
  settled (Err (Truncated byte)) e h t = only (Err (Truncated byte)) partial e t.0 (λ b. (byte, refl, t.1)) h
  settled (Err Device) e h t = tt
  settled (Err Memory) e h t = tt
  settled (Err Spent) e h t = tt

module _ {X : Type 0} (g : source.Ghosts X) (is : List (List ℕ) → Type 0) (limit : ℕ) (old new : X) where
  -- the words that are left of known ones
  left_of : (ws own : List ℕ) → g.words old ≡ Some ws → Takes g old new own → (rest : List ℕ) × (g.words new ≡ Some rest) × (ws ≡ own ++ rest)
  left_of ws own e t = known_still ws own (g.words new) (subst (λ (o : Option (List ℕ)). Consumes o (g.words new) own) e t.consumed)

  -- what a fault says of them
  pub reports_fault : (fault : FrameFault) (ws : List ℕ) → g.words old ≡ Some ws → Faults g limit old new fault
      → Reports is limit ws (g.is_cut old) (g.places old) (g.words new) (Err fault)
  reports_fault (TooManySegments count) ws e h =
      let t = h.0 in
      let c = left_of ws (t.first ∷ []) e t.takes in
      (record { first = t.first; rest = c.0; whole = c.2; many = omega (arith, t.count_is, t.many) }, c.1, t.count_is)
  reports_fault (TooLarge words) ws e h =
      let t = h.0.1 in
      let c = left_of ws t.table e t.takes in
      (record { table = t.table; rest = c.0; sizes = h.0.0; whole = c.2; is_table = t.is_table; past = omega (arith, h.0.2, h.0.3) }, c.1, h.0.2)
  reports_fault (Truncated byte) ws e h =
      subst (λ (o : Option (List ℕ)). IfSome o (λ xs. IsPartial limit xs (g.is_cut old) × (drop (length xs) (g.places old) ≡ byte ∷ []))) e h.short
  reports_fault fault ws e h = tt

  abbrev pub SaysMessage : Result Bool FrameFault → Type 0
  SaysMessage r = r ≡ Ok true → (m : List (List ℕ)) × TakesFrame g limit old new m × is m

  -- and what each result says
  reports : (r : Result Bool FrameFault) (ws : List ℕ) → g.words old ≡ Some ws → SaysMessage r → ReadsNext g limit old new r
      → Reports is limit ws (g.is_cut old) (g.places old) (g.words new) r
  reports (Ok true) ws e s n =
      let t = s refl in
      let c = left_of ws t.1.own e t.1.takes in
      (record { own = t.1.own; rest = c.0; message = t.0; whole = c.2; frames = t.1.frames; within = t.1.within }, c.1, t.2)
  reports r ws e s n = search (rules, reports_fault)

  -- so known words decide the result
  pub decides : (r : Result Bool FrameFault) → SaysMessage r → ReadsNext g limit old new r → Decides g is limit old new r
  decides r s n =
      let at = λ (ws : List ℕ) (e : g.words old ≡ Some ws). reports r ws e s n in
      let cut = g.is_cut old in
      let places = g.places old in
      let left = g.words new in
      record {
        whole = λ ws e b. settled is limit ws cut places left r message b (at ws e);
        no_word = λ e c. settled is limit [] cut places left r none (refl, c) (at [] e);
        many = λ ws e b. settled is limit ws cut places left r too_many b (at ws e);
        large = λ ws e b. settled is limit ws cut places left r too_large b (at ws e);
        cut_short = λ ws e b. settled is limit ws cut places left r partial b (at ws e);
      }
