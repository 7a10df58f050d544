-- The words and the text of a copy at the start of a buffer.
use Rattle.cap_spec.specs.declared.CanonFault.TheVariants.{HasCapability, Memory}
use Rattle.cap_spec.proofs.Lemmas.{all_take, length_plain}
use Rattle.cap_spec.proofs.ProofNames.{Err, List, Ok, [], ap, arith, length, take, take_all, ℕ, ◌*◌, ◌<◌, ◌∙◌, ◌≡◌, ◌≤◌}
use Rattle.cap_spec.proofs.ProofNames.{◌⊎◌, AllByRecursion, layout, trim, HasCopy, Denotes, IsFirstCap, plain_text}
use Rattle.cap_spec.proofs.ProofNames.{plain_words, rules}
use Rattle.cap_words.proofs.WholeWords.{words_text}
use Rattle.cap_canon.specs.CopyOvers.{MakesEnough, ReportsOver, enough, grown, has_capability, made, no_copy, no_memory}
use Rattle.cap_canon.specs.CopyOvers.{over, refused}
use Rattle.cap_canon.specs.CanonNames.{CanonFault, first_words}
use Rattle.cap_canon.proofs.Copies.{copy_length, copy_of, same_fault}
use Rattle.cap_canon.proofs.FirstWords.{first_taken}

-- the first bytes are the text of the first words
pub first_text : (words bytes : List ℕ) → AllByRecursion (λ b. b < 256) bytes → 8 * length words ≤ length bytes
    → first_words (length words) bytes ≡ words → take (8 * length words) bytes ≡ plain_text words
first_text words bytes small h e =
    let n = length words in
    let front = take (8 * n) bytes in
    let whole : front ≡ plain_text (plain_words front) = search (rules, words_text, all_take) in
    whole ∙ ap plain_text (first_taken _ _ h ∙ e)

-- a buffer that wasn't made long enough
pub reports_err : {m : List (List ℕ)} {old new : List ℕ} {fault : CanonFault} → MakesEnough m old (Err fault) new → ReportsOver m old (Err fault) new
reports_err {fault = fault} (no_copy s w f e g) = has_capability s w f (ap Err (same_fault fault (HasCapability s w) e)) g
reports_err {fault = fault} (refused words h l e g) = no_memory words h l (ap Err (same_fault fault Memory e)) g
reports_err (enough words h l e g) = absurd (cc)
reports_err (made words h l e g) = absurd (cc)

-- one that is long enough, for this copy
pub enough_of : (m : List (List ℕ)) (old new : List ℕ) → MakesEnough m old (Ok tt) new
    → (words : List ℕ) × HasCopy m words × (8 * length words ≤ length new)
enough_of m old new h = search (rules, length_plain)

-- and so for what is laid
pub enough_for : (m : List (List ℕ)) (old new : List ℕ) → MakesEnough m old (Ok tt) new
    → (t : _) (c d : ℕ) → Denotes m 0 0 t c d → 8 * length (layout (trim t)) ≤ length new
enough_for m old new e t c d h =
    let x = enough_of m old new e in
    omega (arith, x.2, copy_length t c d x.1 h)

-- n words were written at the start of it
module _ (m : List (List ℕ)) (old mid new : List ℕ) (n : ℕ) (same : length new ≡ length mid)
    (counts : (t : _) (c d : ℕ) → Denotes m 0 0 t c d → n ≡ length (layout (trim t)))
    (writes : (t : _) (c d : ℕ) → Denotes m 0 0 t c d → first_words (length (layout (trim t))) new ≡ layout (trim t))
    (texts : (t : _) (c d : ℕ) → Denotes m 0 0 t c d → take (8 * length (layout (trim t))) new ≡ plain_text (layout (trim t))) where
  text_of : (words : List ℕ) → HasCopy m words → (n ≡ length words) × (take (length (plain_text words)) new ≡ plain_text words)
  text_of words h = search (rules, length_plain)

  pub reports_ok : MakesEnough m old (Ok tt) mid → ReportsOver m old (Ok (8 * n)) new
  reports_ok (no_copy s w f e g) = absurd (cc)
  reports_ok (refused words h l e g) = absurd (cc)
  reports_ok (enough words h l e g) =
      let x = text_of words h in
      over words h l (ap Ok (omega (arith, length_plain words, x.0))) x.1 (same ∙ ap length g)
  reports_ok (made words h l e g) =
      let x = text_of words h in
      grown words h l (ap Ok (omega (arith, length_plain words, x.0))) x.1 (same ∙ g)

  pub within_ok : MakesEnough m old (Ok tt) mid → 8 * n ≤ length new
  within_ok e =
      let x = enough_of m old mid e in
      omega (arith, x.2, same, (text_of x.0 x.1).0)

  pub copy_ok : MakesEnough m old (Ok tt) mid → HasCopy m (plain_words (take (8 * n) new))
  copy_ok e =
      let x = enough_of m old mid e in search (rules, copy_of, first_taken, within_ok)

  -- the buffer is as long as before if the copy fits, and else as long as the copy
  pub grows : MakesEnough m old (Ok tt) mid → (8 * n ≤ length old → length mid ≡ length old) × (length old < 8 * n → length mid ≡ 8 * n)
  grows (no_copy s w f e g) = absurd (cc)
  grows (refused words h l e g) = absurd (cc)
  grows (enough words h l e g) = search (rules, text_of words h, length_plain words)
  grows (made words h l e g) = search (rules, text_of words h, length_plain words)

-- all of a new vector is the copy
pub new_text : (m : List (List ℕ)) (count : ℕ) (new : List ℕ) → ReportsOver m [] (Ok count) new
    → (words : List ℕ) × HasCopy m words × (new ≡ plain_text words) × (count ≡ length new)
new_text m count new h = search (rules, length_plain, take_all)

-- or there is none, by the fault
pub new_fault : (m : List (List ℕ)) (fault : CanonFault) (new : List ℕ) → ReportsOver m [] (Err fault) new
    → ((s w : ℕ) × IsFirstCap m s w × (fault ≡ HasCapability s w)) ⊎ ((words : List ℕ) × HasCopy m words × (fault ≡ Memory))
new_fault m fault new h = search (rules, same_fault)
