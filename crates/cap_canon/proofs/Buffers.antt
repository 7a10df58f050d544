-- The message and the capacity decide what is reported of a copy into capacity, and what it then holds.
use Rattle.cap_spec.proofs.Lemmas.{words_exact, one_copy, one_first_cap}
use Rattle.cap_spec.proofs.ProofNames.{rules, List, Result, ap, arith, length, sym, take_all, ℕ, ◌*◌, ◌∙◌, ◌≡◌, ◌≤◌}
use Rattle.cap_spec.proofs.ProofNames.{plain_words}
use Rattle.cap_canon.specs.CopyBuffers.{ReportsBuffer, has_capability, too_small, written}
use Rattle.cap_canon.specs.CanonNames.{CanonFault, first_words}
use Rattle.cap_canon.specs.declared.fault.BufferFault.{BufferFault}
use Rattle.cap_canon.specs.declared.fault.BufferFault.TheVariants.{HasCapability, BufferTooSmall}
use Rattle.cap_canon.proofs.Copies.{cap_no_copy}
use Rattle.cap_canon.proofs.FirstWords.{first_words_count}
use Rattle.cap_spec.specs.declared.CanonFault.TheVariants as canon

-- one thing is reported
pub one_buffer : {m : List (List ℕ)} {old : List ℕ} {a b : Result ℕ BufferFault} {xs ys : List ℕ} → ReportsBuffer m old a xs → ReportsBuffer m old b ys
    → (a ≡ b) × (xs ≡ ys)
one_buffer {m} (has_capability s w f e g) (has_capability t x h i j) =
    search (rules, one_first_cap m s w t x f h)
one_buffer {m} (has_capability s w f e g) (too_small us h l i j) = absurd (cap_no_copy m s w us f h)
one_buffer {m} (has_capability s w f e g) (written us h l i j) = absurd (cap_no_copy m s w us f h)
one_buffer {m} (too_small ws h l i j) (has_capability s w f e g) = absurd (cap_no_copy m s w ws f h)
one_buffer {m} (written ws h l i j) (has_capability s w f e g) = absurd (cap_no_copy m s w ws f h)
one_buffer {m} (too_small ws h l e g) (too_small us k n i j) = search (rules, one_copy m ws us h k)
one_buffer {m} (written ws h l e g) (written us k n i j) =
    let same = one_copy m ws us h k in search rules
one_buffer {m} (too_small ws h l e g) (written us k n i j) = search (rules, one_copy m ws us h k)
one_buffer {m} (written ws h l e g) (too_small us k n i j) = search (rules, one_copy m ws us h k)

-- the words that were written are the first this many
pub counted : (count : ℕ) (bytes words : List ℕ) → 8 * count ≤ length bytes → first_words count bytes ≡ words → first_words (length words) bytes ≡ words
counted count bytes words inside e = ap (λ (n : ℕ). first_words n bytes) (sym (ap length e) ∙ first_words_count count bytes inside) ∙ e

-- capacity of just the length of the words in front holds nothing else
pub filled : (bytes words : List ℕ) → first_words (length words) bytes ≡ words → length bytes ≡ 8 * length words → plain_words bytes ≡ words
filled bytes words e long = sym (take_all (length words) (plain_words bytes) (omega (arith, long, words_exact bytes))) ∙ e

-- a fault of the length as one of capacity, where it names a capability
abbrev pub buffer_fault : CanonFault → BufferFault
buffer_fault (canon.HasCapability s w) = HasCapability s w
buffer_fault canon.Memory = BufferTooSmall 0
