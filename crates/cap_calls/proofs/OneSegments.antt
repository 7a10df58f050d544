-- Messages of one segment.
use Rattle.cap_spec.proofs.Bytes.Plain.{words_exact}
use Rattle.cap_spec.proofs.ProofNames.{All, List, [], ap, arith, drop, length, refl, subst, suc, sym, take, zero, ℕ, ◌*◌}
use Rattle.cap_spec.proofs.ProofNames.{◌+◌, ◌-◌, ◌/◌, ◌<◌, ◌∙◌, ◌∷◌, ◌≡◌, ◌≤◌, words_from, segment_of, plain_text}
use Rattle.cap_spec.proofs.ProofNames.{plain_words, IsWord}
use Rattle.cap_frame.proofs.Parts.{drop_words, take_words}

-- A message of one segment has no other.
pub only_segment : (m : List (List ℕ)) → length m ≡ 1 → m ≡ segment_of m 0 ∷ []
only_segment (ws ∷ []) e = refl
only_segment [] e = absurd (omega (arith, e))
only_segment (a ∷ b ∷ m) e = absurd (omega (arith, e))

-- each segment that exists is that of the slice
pub slice_words : (bs : List ℕ) (s : ℕ) → s < 1 → segment_of (plain_words bs ∷ []) s ≡ plain_words bs
slice_words bs zero h = refl
slice_words bs (suc s) h = absurd (omega (arith, h))

pub slice_size : (bs : List ℕ) (s : ℕ) → s < 1 → length (segment_of (plain_words bs ∷ []) s) ≡ length bs / 8
slice_size bs s h = ap (λ (ws : List ℕ). length ws) (slice_words bs s h) ∙ words_exact bs

-- some of its words are those of some of its bytes
pub slice_part : (bs : List ℕ) (b n : ℕ) → plain_words (take (8 * n) (drop (8 * b) bs)) ≡ words_from (plain_words bs ∷ []) 0 b n
slice_part bs b n =
    let e : n ≡ b + n - b = omega arith in
    sym (take_words n (drop (8 * b) bs))
    ∙ (ap (take n) (sym (drop_words b bs)) ∙ ap (λ (k : ℕ). take k (drop b (plain_words bs))) e)

-- so they are there, and are words
pub record SlicePart (bs part : List ℕ) (s b n : ℕ) : Type 0 where
  pub exist : (s < 1) × (b + n ≤ length (segment_of (plain_words bs ∷ []) s))
  pub text : part ≡ plain_text (words_from (plain_words bs ∷ []) s b n)
  pub words : All IsWord (words_from (plain_words bs ∷ []) s b n)

pub slice_bytes : (bs part : List ℕ) (s b n : ℕ) → s ≡ 0 → b + n ≤ length bs / 8 → part ≡ take (8 * n) (drop (8 * b) bs)
    → part ≡ plain_text (plain_words part) → All IsWord (plain_words part) → SlicePart bs part s b n
slice_bytes bs part zero b n first inside same text words =
    let own : plain_words part ≡ words_from (plain_words bs ∷ []) 0 b n = ap plain_words same ∙ slice_part bs b n in record {
      exist = (omega arith, omega (arith, inside, words_exact bs));
      text = text ∙ ap plain_text own;
      words = subst (λ (ws : List ℕ). All IsWord ws) own words;
    }
slice_bytes bs part (suc s) b n first inside same text words = absurd (omega (arith, first))
