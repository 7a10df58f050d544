-- A source whose words are filled into a buffer, some at a time.
use Rattle.std.proofs.lemmas.Grind.{flat_map-append}
use Rattle.cap_spec.proofs.Bytes.Plain.{length_plain, plain_back, plain_short}
use Rattle.cap_spec.proofs.ProofNames.{Bool, List, OnSome, Option, Some, [], ap, append-nil, arith, drop, drop-drop}
use Rattle.cap_spec.proofs.ProofNames.{false, length, length-append, length-drop, length-take-le, min}
use Rattle.cap_spec.proofs.ProofNames.{subst, sym, take, take-append-drop, true, ℕ, ◌%◌, ◌*◌, ◌++◌, ◌+◌, ◌-◌}
use Rattle.cap_spec.proofs.ProofNames.{◌/◌, ◌<◌, ◌^◌, ◌∙◌, ◌∷◌, ◌≡◌, ◌≤◌, ◌⊎◌, Consumes-nil, Consumes-trans, Consumes}
use Rattle.cap_spec.proofs.ProofNames.{put_mid, plain_text, plain_words, word_bytes, IsWord, rules, common_steps}
use Rattle.cap_words.specs.ByteIo.{Works}
use Rattle.cap_words.specs.TakingMany.{EndsWithin, ReadsBytes, TakesAll}
use Rattle.cap_words.proofs.Pieces.{on_some}
use Rattle.cap_words.proofs.Turns.{filled, filled_within}
use Rattle.cap_words.specs.declared.sources.WordSource as source

-- the words of whole words and of what is after them
pub plain_join : (xs ys : List ℕ) → length xs % 8 ≡ 0 → plain_words (xs ++ ys) ≡ plain_words xs ++ plain_words ys
plain_join (a ∷ b ∷ c ∷ d ∷ x ∷ f ∷ g ∷ h ∷ xs) ys e = let t = plain_join xs ys (omega arith) in cc
plain_join xs ys e = search rules

-- some words were taken, and then others
pub takes_both : {a b c : Option (List ℕ)} {own more : List ℕ} {d e f : Bool} {p q r : ℕ} {ps qs rs : List ℕ}
    → TakesAll a b d e p q ps qs own → TakesAll b c e f q r qs rs more → TakesAll a c d f p r ps rs (own ++ more)
takes_both {a} {b} {c} {own} {more} {d} {e} {f} {p} {q} {r} {ps} {qs} {rs} t u = search (rules, Consumes-trans, drop-drop, length-append)

-- the next word, as a call gives it
pub takes_one : {a b : Option (List ℕ)} (word : ℕ) {c d : Bool} {p q : ℕ} {ps qs : List ℕ} → Consumes a b (word ∷ []) →
    OnSome a ((d ≡ c) × (ps ≡ q ∷ qs)) → TakesAll a b c d p q ps qs (word ∷ [])
takes_one {a} word {c} {d} {p} {q} {ps} {qs} t g = search rules

-- the input ended after words that were taken, fewer than were needed
pub ends_both : {a b : Option (List ℕ)} {own : List ℕ} {count : ℕ} (at : ℕ) {p q : ℕ} {ps qs : List ℕ} {c d : Bool} (inside : Bool) → length own < count →
    TakesAll a b c d p q ps qs own
    → OnSome b ((b ≡ Some []) × (d ≡ inside) × (qs ≡ at ∷ [])) → EndsWithin count a c inside ps at
ends_both {a} {b} {own} {count} at {p} {q} {ps} {qs} {c} {d} inside few t s = search (rules, append-nil own, drop-drop 1 (length own) (p ∷ ps))

-- bytes that a call read
pub reads_one : {a b : Option (List ℕ)} {p q : ℕ} → (bs : List ℕ) × Consumes a b bs × (q ≡ min (p + length bs) (2 ^ 64 - 1)) → ReadsBytes a b p q
reads_one r = record { bytes = r.0; lost = r.1; counted = let e = r.2 in omega (arith, e) }

-- and then others
pub reads_both : {a b c : Option (List ℕ)} {p q r : ℕ} → ReadsBytes a b p q → ReadsBytes b c q r → ReadsBytes a c p r
reads_both {a} {b} {c} s t = search (rules, Consumes-trans, length-append)

-- a call that gave buffered bytes worked
pub ready_works : {A : Type 0} (n : ℕ) {was is : Bool} {before after : A} → 0 < n → (n ≡ 0) ⊎ (was ≡ false) → is ≡ was → after ≡ before →
    Works was is before after
ready_works n some x3 still same = search rules

-- what is before a piece of a buffer stays
pub front_kept : (at k : ℕ) (buffer given : List ℕ) → at ≤ length buffer → take at (put_mid at k buffer given) ≡ take at buffer
front_kept at k buffer given h = grind (arith, common_steps, filled, append-nil)

-- the bytes of a word, in a buffer that was written to before
pub word_filled : {at : ℕ} (k l : ℕ) (buffer before given : List ℕ) → at ≤ length buffer → 8 ≤ length given
    → take (at + 8) (put_mid at l (put_mid at k buffer before) given) ≡ take at buffer ++ take 8 given
word_filled {at} k l buffer before given h long = search (rules, filled_within, filled, front_kept)

pub word_within : {at : ℕ} (k l : ℕ) (buffer before given : List ℕ) → at ≤ length buffer → 8 ≤ length given →
    at + 8 ≤ length (put_mid at l (put_mid at k buffer before) given)
word_within {at} k l buffer before given h long = search (rules, filled_within)

-- no bytes were appended
pub none_appended : {items : List ℕ} {words : Option (List ℕ)} {cut : Bool} {place : ℕ} {places : List ℕ}
    → (given : List ℕ) × (items ≡ items ++ given) × (length given ≡ 0) × (given ≡ plain_text (plain_words given))
    × TakesAll words words cut cut place place places places (plain_words given)
none_appended {items} {words} {place} {places} = search (rules, append-nil, Consumes-nil, on_some)

module _ {X : Type 0} (g : source.Ghosts X) where
  -- The words of this many bytes at the start of a buffer were taken.
  pub record FilledSoFar (old now : X) (done : ℕ) (out : List ℕ) : Type 0 where
    pub whole : done % 8 ≡ 0
    pub within : done ≤ length out
    pub text : take done out ≡ plain_text (plain_words (take done out))
    pub takes : TakesAll (g.words old) (g.words now) (g.is_cut old) (g.is_cut now) (g.place old) (g.place now) (g.places old) (g.places now)
        (plain_words (take done out))
    pub reads : ReadsBytes (g.unread old) (g.unread now) (g.place old) (g.place now)
    pub none : done ≡ 0 → now ≡ old
    pub some : 0 < done → Works (g.broken old) (g.broken now) (g.failures old) (g.failures now)
    pub ended : g.ended old ≡ true → done ≡ 0
    pub failed : g.failed old ≡ true → done ≡ 0

  -- What a call gave at the start of a piece: these bytes, and their words.
  pub record GivesSome (now new : X) (n : ℕ) (given : List ℕ) : Type 0 where
    pub some : 0 < n
    pub within : n ≤ length given
    pub text : take n given ≡ plain_text (plain_words (take n given))
    pub takes : TakesAll (g.words now) (g.words new) (g.is_cut now) (g.is_cut new) (g.place now) (g.place new) (g.places now) (g.places new)
        (plain_words (take n given))
    pub reads : ReadsBytes (g.unread now) (g.unread new) (g.place now) (g.place new)
    pub works : Works (g.broken now) (g.broken new) (g.failures now) (g.failures new)
    pub not_ended : g.ended now ≡ true → n ≡ 0
    pub not_failed : g.failed now ≡ true → n ≡ 0

  -- the next word gives its eight bytes
  pub next_gives : (now new : X) (given : List ℕ) (word : ℕ) → given ≡ word_bytes word → IsWord word
      → Consumes (g.words now) (g.words new) (word ∷ []) → OnSome (g.words now) ((g.is_cut new ≡ g.is_cut now) × (g.places now ≡ g.place new ∷ g.places new))
      → ReadsBytes (g.unread now) (g.unread new) (g.place now) (g.place new) → Works (g.broken now) (g.broken new) (g.failures now) (g.failures new)
      → (g.ended now ≡ true → ⊥) → (g.failed now ≡ true → ⊥) → GivesSome now new 8 given
  next_gives now new given word e is t p r w not_ended not_failed = search (rules, plain_back, takes_one)

  -- without a fault so far, and then
  pub works_both : (old now new : X) (done : ℕ) (out : List ℕ) → FilledSoFar old now done out →
      Works (g.broken now) (g.broken new) (g.failures now) (g.failures new)
      → Works (g.broken old) (g.broken new) (g.failures old) (g.failures new)
  works_both old now new done out f w = search rules

  -- this many words are that
  pub filled_words : (old : X) {now : X} {done : ℕ} {out : List ℕ} → FilledSoFar old now done out → 8 * length (plain_words (take done out)) ≡ done
  filled_words old {done} {out} f = sym (length_plain (plain_words (take done out))) ∙ (sym (ap length f.text) ∙ length-take-le done out f.within)

  -- one more piece
  pub filled_more : (old now new : X) (done n : ℕ) (out longer given : List ℕ) → FilledSoFar old now done out → GivesSome now new n given
      → take (done + n) longer ≡ take done out ++ take n given → done + n ≤ length longer → FilledSoFar old new (done + n) longer
  filled_more old now new done n out longer given f p e buffer =
      let many = filled_words old f in
      let more : 8 * length (plain_words (take n given)) ≡ n = sym (length_plain (plain_words (take n given)))
      ∙ (sym (ap length p.text) ∙ length-take-le n given p.within) in
      let front : length (take done out) % 8 ≡ 0 = ap (λ k. k % 8) (length-take-le done out f.within) ∙ f.whole in
      let words : plain_words (take (done + n) longer) ≡ plain_words (take done out) ++ plain_words (take n given) = ap plain_words e
      ∙ plain_join (take done out) (take n given) front in
      let P = λ (ws : List ℕ). TakesAll (g.words old) (g.words new) (g.is_cut old) (g.is_cut new) (g.place old) (g.place new) (g.places old)
      (g.places new) ws in
      record {
        whole = omega (arith, f.whole, more);
        within = buffer;
        text =
            e ∙ (ap (λ l. l ++ take n given) f.text ∙ (ap (λ l. plain_text (plain_words (take done out)) ++ l) p.text
            ∙ (sym (flat_map-append word_bytes (plain_words (take done out)) (plain_words (take n given))) ∙ ap plain_text (sym words))));
        takes = subst P (sym words) (takes_both f.takes p.takes);
        reads = reads_both f.reads p.reads;
        none = λ none. absurd (let s = p.some in omega arith);
        some = λ some. works_both old now new done out f p.works;
        ended = λ is. let z = f.ended is in let y = p.not_ended (ap g.ended (f.none z) ∙ is) in omega arith;
        failed = λ is. let z = f.failed is in let y = p.not_failed (ap g.failed (f.none z) ∙ is) in omega arith;
      }

  -- a source that nothing was taken from is where it was
  pub filled_still : (old : X) {now same : X} {done : ℕ} {out : List ℕ} → same ≡ now → FilledSoFar old now done out → FilledSoFar old same done out
  filled_still old {done} {out} e f = subst (λ (s : X). FilledSoFar old s done out) (sym e) f

  -- the words that are filled in at last
  pub filled_all : (old now : X) (done : ℕ) (out : List ℕ) (count : ℕ) → FilledSoFar old now done out → count ≡ length out / 8 → done ≡ count * 8
      → (length (plain_words out) ≡ count) × (take (8 * length (plain_words out)) out ≡ plain_text (plain_words out))
      × TakesAll (g.words old) (g.words now) (g.is_cut old) (g.is_cut now) (g.place old) (g.place now) (g.places old) (g.places now) (plain_words out)
  filled_all old now done out count f c d = search (
    rules,
    filled_words old f,
    length-take-le done out f.within,
    length-drop done out,
    take-append-drop done out,
    plain_join (take done out) (drop done out) (ap (λ k. k % 8) (length-take-le done out f.within) ∙ f.whole),
    plain_short (drop done out) (omega (arith, length-drop done out)),
    append-nil (plain_words (take done out)),
  )
