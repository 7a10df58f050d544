-- The words of a list or of bytes, put to a sink a piece after the other.
use Rattle.byteorder.specs.Endian.{IsRead}
use Rattle.cap_spec.proofs.Bytes.Plain.{plain_short}
use Rattle.cap_spec.proofs.ProofNames.{Bool, List, Option, [], ap, append-nil, append_assoc, arith, drop, drop-drop, false}
use Rattle.cap_spec.proofs.ProofNames.{length, length-drop, length-take-le, refl, subst, suc, sym, take, take-append-drop}
use Rattle.cap_spec.proofs.ProofNames.{ℕ, ◌*◌, ◌++◌, ◌+◌, ◌-◌, ◌<◌, ◌∙◌, ◌∷◌, ◌≡◌, ◌≤◌, Keeps-trans, take_rest}
use Rattle.cap_spec.proofs.ProofNames.{little_number, plain_words, rules}
use Rattle.cap_words.specs.WordNames.{Failures, Begins, StoppedPutting, WasPut}
use Rattle.cap_words.proofs.Filling.{plain_join}
use Rattle.cap_words.proofs.Known.{begins_kept}

-- the first word of bytes, and the words after it
pub word_first : (bytes : List ℕ) → 8 ≤ length bytes → plain_words bytes ≡ little_number 8 bytes ∷ plain_words (drop 8 bytes)
word_first (a ∷ b ∷ c ∷ d ∷ e ∷ f ∷ g ∷ x ∷ rest) h = refl
word_first bytes h = absurd (omega arith)

-- the words that are in bytes, each read from its place
pub words_read : (words bytes : List ℕ) → length bytes ≡ 8 * length words → IsRead little_number 8 bytes words → words ≡ plain_words bytes
words_read [] bytes l r = sym (plain_short bytes (omega (arith, l)))
words_read (w ∷ words) bytes l r =
    let moved : (k : ℕ) → drop (8 * suc k) bytes ≡ drop (8 * k) (drop 8 bytes) = λ k.
    let same : 8 + 8 * k ≡ 8 * suc k = omega arith in sym (drop-drop (8 * k) 8 bytes ∙ ap (λ n. drop n bytes) same) in
    let rest =
    words_read words (drop 8 bytes) (omega (arith, l, length-drop 8 bytes)) (λ k h. r (suc k) (omega (arith, h)) ∙ ap (little_number 8) (moved k)) in
    ap (λ (x : ℕ). x ∷ words) (r 0 (omega arith)) ∙ ap (λ ws. little_number 8 bytes ∷ ws) rest ∙ sym (word_first bytes (omega (arith, l)))

-- the words of a piece of whole words, and those after it
pub words_next : (bytes words : List ℕ) (done count : ℕ) → done ≤ length bytes → 8 * count ≤ length bytes - done →
    words ≡ plain_words (take (8 * count) (take (length bytes - done) (drop done bytes)))
    → plain_words (drop done bytes) ≡ words ++ plain_words (drop (done + 8 * count) bytes)
words_next bytes words done count w h e =
    let rest = drop done bytes in
    let long : length (take (8 * count) rest) ≡ 8 * count = length-take-le (8 * count) rest (omega (arith, h, length-drop done bytes)) in
    ap plain_words (sym (take-append-drop (8 * count) rest))
    ∙ plain_join (take (8 * count) rest) (drop (8 * count) rest) (omega (arith, long))
    ∙ ap (λ l. plain_words (take (8 * count) rest) ++ plain_words l) (drop-drop (8 * count) done bytes)
    ∙ ap (λ l. plain_words (take (8 * count) l) ++ plain_words (drop (done + 8 * count) bytes)) (sym (take_rest bytes done))
    ∙ ap (λ (ws : List ℕ). ws ++ plain_words (drop (done + 8 * count) bytes)) (sym e)

-- no word is left of less than eight bytes
pub no_word : (bytes : List ℕ) (done : ℕ) → length bytes - done < 8 → plain_words (drop done bytes) ≡ []
no_word bytes done h = plain_short (drop done bytes) (omega (arith, length-drop done bytes, h))

-- by a sink's text, what its output took, whether it is closed or broken, and its failures
module _ {K : Type 0} (text : K → List ℕ → Option (List ℕ)) (taken : K → Option (List ℕ)) (closed broken : K → Bool) (failures : K → Failures) where
  -- Of all these words the rest is left to put.
  pub record PutSoFar (old now : K) (all rest : List ℕ) : Type 0 where
    pub done : List ℕ
    pub whole : all ≡ done ++ rest
    pub put : WasPut text old now done
    pub is_open : closed now ≡ false
    pub same_broken : broken now ≡ broken old
    pub none_failed : failures now ≡ failures old

module _ {K : Type 0} {text : K → List ℕ → Option (List ℕ)} {taken : K → Option (List ℕ)} {closed broken : K → Bool} {failures : K → Failures} where
  -- the next ones were put
  pub put_more : (old now new : K) (all rest less xs : List ℕ) → rest ≡ xs ++ less → PutSoFar text taken closed broken failures old now all rest → WasPut text now new xs
      → (closed now ≡ false) × (closed new ≡ false) × (broken new ≡ broken now) × (failures new ≡ failures now) → PutSoFar text taken closed broken failures old new all less
  put_more old now new all rest less xs e s p o = record {
    done = s.done ++ xs;
    whole = s.whole ∙ ap (λ (ws : List ℕ). s.done ++ ws) e ∙ sym (append_assoc s.done xs less);
    put = search (rules, append_assoc, Keeps-trans);
    is_open = o.1;
    same_broken = o.2 ∙ s.same_broken;
    none_failed = o.3 ∙ s.none_failed;
  }

  -- all were put
  pub put_all : (old now : K) (all rest : List ℕ) → rest ≡ [] → PutSoFar text taken closed broken failures old now all rest → WasPut text old now all
  put_all old now all rest e s = subst (WasPut text old now) (sym (s.whole ∙ ap (λ (ws : List ℕ). s.done ++ ws) e ∙ append-nil s.done)) s.put

  -- a fault came at the next ones
  pub put_stops : (old now new : K) (all rest less xs : List ℕ) → rest ≡ xs ++ less → PutSoFar text taken closed broken failures old now all rest
      → ((ws : List ℕ) → Begins (text now (xs ++ ws)) (taken new)) → StoppedPutting text taken old new all
  put_stops old now new all rest less xs e s h = search (rules, append_assoc, begins_kept)
