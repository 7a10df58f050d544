-- A message of one segment, whose words are handed over in one piece.
use Rattle.cap_spec.proofs.Bytes.Plain.{words_exact}
use Rattle.cap_spec.proofs.ProofNames.{List, [], append-nil, false, length, sym, ℕ, ◌*◌, ◌++◌, ◌/◌, ◌^◌, ◌∙◌}
use Rattle.cap_spec.proofs.ProofNames.{◌∷◌, ◌≡◌, frame_text, plain_words, rules}
use Rattle.cap_words.specs.Sinks.{WasPut}
use Rattle.cap_run.specs.Transcoding.{PutsWords}
use Rattle.cap_words.specs.declared.sinks.WordSink as sink

-- the table of one segment is one word
pub frame_of_bytes : (bytes : List ℕ) (x : ℕ) → x ≡ length bytes / 8 * 2 ^ 32 → frame_text (plain_words bytes ∷ []) ≡ (x ∷ []) ++ plain_words bytes
frame_of_bytes bytes x e = search (rules, words_exact, append-nil)

module _ {K : Type 0} (gk : sink.Ghosts K) where
  -- words were put, and no fault came
  pub fills_of : (old new : K) (own : List ℕ) → WasPut gk.text old new own
      → (gk.closed old ≡ false) × (gk.closed new ≡ false) × (gk.broken new ≡ gk.broken old) × (gk.failures new ≡ gk.failures old) → PutsWords gk old new own
  fills_of old new own p o = record { put = p; closed = o.1 ∙ sym o.0; broken = o.2; failures = o.3 }
