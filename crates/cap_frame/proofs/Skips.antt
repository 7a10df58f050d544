-- Passing over the words of segments.
use Rattle.cap_spec.specs.Messages.{root_of}
use Rattle.cap_spec.proofs.Bytes.Plain.{length_plain}
use Rattle.cap_spec.proofs.Frames.OneEnding.{split, split_joined, split_sizes}
use Rattle.cap_spec.proofs.ProofNames.{List, None, Option, Some, [], ap, append-nil, arith, false, get_or, length}
use Rattle.cap_spec.proofs.ProofNames.{length-append, length-take-le, refl, suc, sum, sym, take, ℕ, ◌*◌, ◌++◌, ◌+◌}
use Rattle.cap_spec.proofs.ProofNames.{◌<◌, ◌∙◌, ◌∷◌, ◌≡◌, ◌≤◌, drop_all, sum_by-cons, joined, sizes_of, plain_text}
use Rattle.cap_spec.proofs.ProofNames.{plain_words, rules, common_steps}
use Rattle.cap_frame.specs.Taking.{IsUsable, ReadsInput, Takes}
use Rattle.cap_frame.proofs.Contents.{WordsSoFar, words_start}
use Rattle.cap_frame.proofs.Taking.{took_more}
use Rattle.cap_words.specs.declared.sources.WordSource as source

-- joined, the parts of words are the words
split_whole : (ns ws : List ℕ) → length ws ≡ sum ns → joined (split ns ws) ≡ ws
split_whole ns ws e = search (rules, split_joined ns ws, split ns ws, drop_all (sum ns) ws (omega (arith, e)), append-nil (joined (split ns ws)))

-- a first segment without words has no root word
pub cut_no_root : (ns ws : List ℕ) → get_or ns 0 0 ≡ 0 → root_of (split ns ws) ≡ None
cut_no_root ns ws e = grind (arith, common_steps)

-- and else the first word is the root word
pub cut_root : (ns ws : List ℕ) (w : ℕ) → 0 < get_or ns 0 0 → root_of (split ns (w ∷ ws)) ≡ Some w
cut_root (suc n ∷ ns) ws w h = refl
cut_root ns ws w h = absurd (omega (arith, h))

-- the first number is no more than the sum
pub first_of_sum : (ns : List ℕ) → get_or ns 0 0 ≤ sum ns
first_of_sum ns = grind (arith, common_steps, sum_by-cons)

-- this many bytes of words are that many words
pub words_in : (n : ℕ) (buffer : List ℕ) → n ≤ length buffer → take n buffer ≡ plain_text (plain_words (take n buffer)) → 8 * length (plain_words (take n buffer)) ≡ n
words_in n buffer fits text = sym (length_plain (plain_words (take n buffer))) ∙ (sym (ap length text) ∙ length-take-le n buffer fits)

module _ {X : Type 0} (g : source.Ghosts X) where
  -- This many words were passed over.
  pub record SkippedSoFar (old now : X) (many : ℕ) : Type 0 where
    pub own : List ℕ
    pub so_far : WordsSoFar g old now own many

  -- none yet
  pub skipped_none : (s : X) → g.broken s ≡ false → SkippedSoFar s s 0
  skipped_none s u = record { own = []; so_far = words_start g s [] u refl }

  -- some more
  pub skipped_more : (old now new : X) (many n : ℕ) (own : List ℕ) → SkippedSoFar old now many → Takes g now new own → length own ≡ n → ReadsInput g now new
      → IsUsable g now new → SkippedSoFar old new (many + n)
  skipped_more old now new many n own w t l r u = search (rules, took_more g old now new w.own own (w.own ++ own) refl w.so_far.took t r u, length-append w.own own)

  -- the words of the segments
  pub skipped_all : (old new : X) (ns own : List ℕ) (root : Option ℕ) → Takes g old new own → length own ≡ sum ns → root_of (split ns own) ≡ root
      → (m : List (List ℕ)) × Takes g old new (joined m) × (sizes_of m ≡ ns) × (root_of m ≡ root)
  skipped_all old new ns own root t l r = (split ns own, rw (split_whole ns own l) t, split_sizes ns own (omega (arith, l)), r)
