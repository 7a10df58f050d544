-- The words of one segment, or the one cause why there are none.
use Rattle.std.proofs.Common.{IsFalse}
use Rattle.cap_spec.proofs.Bytes.Plain.{words_exact}
use Rattle.cap_spec.proofs.ProofNames.{IsTrue, List, [], length, sum, sym, zero-add, ℕ, ◌*◌, ◌∙◌, ◌∷◌}
use Rattle.cap_spec.proofs.ProofNames.{◌≡◌, ◌≤◌, false≢true, sizes_of, plain_words, rules}
use Rattle.cap_calls.specs.CallInputs.{IsNoSegment}
use Rattle.cap_calls.specs.CallNames.{has_no_table, IsSegment, NoFrame, CallLimits}

module _ (l : CallLimits) (bs : List ℕ) where
  -- there is no segment for one cause
  pub one_word_cause : (a b : NoFrame) → IsNoSegment l bs a → IsNoSegment l bs b → a ≡ b
  one_word_cause a b h x4 = search rules

  -- where there is one, there is no cause for none
  pub no_word_cause : (a : NoFrame) → IsNoSegment l bs a → IsSegment l bs → ⊥
  no_word_cause a h w = search rules

-- the input is a frame or words
pub one_input : {A : Type 0} → (l : CallLimits) → IsFalse (has_no_table l) → IsTrue (has_no_table l) → A
one_input l off on = absurd (false≢true (sym off ∙ on))

-- the words are those of the bytes
pub few_words : (bs : List ℕ) → 8 * sum (sizes_of (plain_words bs ∷ [])) ≤ length bs
few_words bs = search (rules, zero-add, words_exact)
