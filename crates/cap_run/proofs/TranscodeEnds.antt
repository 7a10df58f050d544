-- What is known of the words of a source decides how a copy of them ends, faults of devices and of the output aside.
use Rattle.cap_spec.proofs.ProofNames.{Err, List, Ok, Option, Result, Some, [], append-nil, append_assoc, arith}
use Rattle.cap_spec.proofs.ProofNames.{drop, drop-drop, false, length, length-append, refl, subst, take}
use Rattle.cap_spec.proofs.ProofNames.{true, ℕ, ◌<◌, ◌∷◌, ◌≡◌, ◌≤◌, take-append_seam, Consumes, rules}
use Rattle.cap_words.specs.declared.sources.SourceFault.TheVariants.{Device, Spent, Truncated}
use Rattle.cap_frame.proofs.Converse.{known_still, same_some}
use Rattle.cap_text.specs.declared.fault.CopyFault.TheVariants.{Output}
use Rattle.cap_run.specs.RunNames.{CopyFault, Source, TooManyWords, TranscodesWords, Finishes, Transcoded}
use Rattle.cap_run.specs.RunNames.{TranscodesAll}
use Rattle.cap_run.specs.Transcoding.{TranscodeSettled, TranscodesMost, TranscodesUntil}
use Rattle.cap_run.proofs.Settling.{on_known}
use Rattle.cap_words.specs.declared.sources.WordSource as source
use Rattle.cap_words.specs.declared.sinks.WordSink as sink

module _ {S K : Type 0} (gs : source.Ghosts S) (gk : sink.Ghosts K) (at_once most : ℕ) (old new : S) (before after : K) (own : List ℕ) where
  -- known words that were all put
  pub all_put : (put : List ℕ) → gs.words old ≡ Some own → (c : TranscodesAll gs gk most old new before after put)
      → (put ≡ own) × (gs.is_cut old ≡ false) × (length own ≤ most)
  all_put put w c = search (rules, on_known, same_some)

  -- where one word too many was read, there are more of them
  pub most_put : gs.words old ≡ Some own → (c : TranscodesMost gs gk most old new before after) → (most < length own) × (c.own ≡ take most own)
  most_put w c = search (rules, known_still, append_assoc, length-append, take-append_seam)

  -- where the input ended inside a word, all of them were put
  pub cut_put : (byte : ℕ) → gs.words old ≡ Some own → (c : TranscodesUntil gs gk most old new before after (Truncated byte))
      → (c.own ≡ own) × (gs.is_cut old ≡ true) × (length own ≤ most) × (drop (length own) (gs.places old) ≡ byte ∷ [])
  cut_put byte w c =
      search (
        rules,
        known_still own c.own (gs.words c.mid) (subst (λ (o : Option (List ℕ)). Consumes o (gs.words c.mid) c.own) w c.gives.takes.consumed),
        on_known,
        on_known (gs.words old) own _ w c.gives.takes.goes_on,
        same_some,
        append-nil c.own,
        drop-drop 1 (length c.own) (gs.place old ∷ gs.places old),
      )

  -- all words, where there aren't too many and the input isn't cut
  pub copy_whole : (r : Result ℕ CopyFault) → gs.words old ≡ Some own → gs.is_cut old ≡ false → length own ≤ most
      → Transcoded gs gk at_once most old new before after r
      → TranscodeSettled r ((r ≡ Ok (length own)) × Finishes gk before after own)
  copy_whole (Ok n) w i l c = search (rules, all_put)
  copy_whole (Err TooManyWords) w i l c = absurd (let t = most_put w c in omega (arith, t.0, l))
  copy_whole (Err (Source (Truncated byte))) w i l c = absurd (let t = cut_put byte w c in let e = t.1 in cc)
  copy_whole (Err (Source Device)) w i l c = tt
  copy_whole (Err (Source Spent)) w i l c = tt
  copy_whole (Err (Output fault)) w i l c = tt

  -- and where it is cut, that fault after them
  pub copy_cut : (r : Result ℕ CopyFault) → gs.words old ≡ Some own → gs.is_cut old ≡ true → length own ≤ most
      → Transcoded gs gk at_once most old new before after r
      → TranscodeSettled r ((byte : ℕ) × (r ≡ Err (Source (Truncated byte))) × (drop (length own) (gs.places old) ≡ byte ∷ []) × Finishes gk before after own)
  copy_cut (Ok n) w i l c = absurd (let t = all_put c.0 w c.2 in let e = t.1 in cc)
  copy_cut (Err TooManyWords) w i l c = absurd (let t = most_put w c in omega (arith, t.0, l))
  copy_cut (Err (Source (Truncated byte))) w i l c = let t = cut_put byte w c in (byte, refl, t.3, subst (Finishes gk before after) t.0 c.finishes)
  copy_cut (Err (Source Device)) w i l c = tt
  copy_cut (Err (Source Spent)) w i l c = tt
  copy_cut (Err (Output fault)) w i l c = tt

  -- and where there are too many, the first of them and that fault
  pub copy_many : (r : Result ℕ CopyFault) → gs.words old ≡ Some own → most < length own → Transcoded gs gk at_once most old new before after r
      → TranscodeSettled r ((r ≡ Err TooManyWords) × Finishes gk before after (take most own))
  copy_many (Ok n) w l c = absurd (let t = all_put c.0 w c.2 in omega (arith, t.2, l))
  copy_many (Err TooManyWords) w l c = let t = most_put w c in (refl, subst (Finishes gk before after) t.1 c.finishes)
  copy_many (Err (Source (Truncated byte))) w l c = absurd (let t = cut_put byte w c in omega (arith, t.2, l))
  copy_many (Err (Source Device)) w l c = tt
  copy_many (Err (Source Spent)) w l c = tt
  copy_many (Err (Output fault)) w l c = tt

module _ {S K : Type 0} {gs : source.Ghosts S} {gk : sink.Ghosts K} where
  -- how a copy ends says what it answers where the words are known
  pub copies_words : {at_once most : ℕ} {old new : S} {before after : K} {r : Result ℕ CopyFault}
      → Transcoded gs gk at_once most old new before after r → TranscodesWords gs gk at_once most old new before after r
  copies_words c = search (rules, copy_whole, copy_cut, copy_many)
