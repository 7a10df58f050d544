use Rattle.std.proofs.Common.{arith, ◌/◌, ◌^◌, ap, bit_and, ℕ, ◌%◌, ◌-◌, ◌∙◌, ◌≡◌, ◌≤◌}
use Rattle.std.proofs.lemmas.Nat.{and_mask}
use Rattle.std.proofs.lemmas.Nat.Bits.{ones_shr}
use Rattle.cap_words.proofs.word.bits.Goals as goal

-- The bits of a word, by a mask.
-- the lowest count bits, by a mask that is all ones moved down
masked : (x count : ℕ) → count ≤ 64 → bit_and x ((2 ^ 64 - 1) / 2 ^ (64 - count)) ≡ x % 2 ^ count
masked x count h =
    let same : 64 - (64 - count) ≡ count = omega arith in
    ap (bit_and x) (ones_shr 64 (64 - count) (omega arith)) ∙ ap (λ n. bit_and x (2 ^ n - 1)) same ∙ and_mask x count

pub returns : goal.returns
returns c = masked (c.args.word / 2 ^ c.args.low) c.args.count (omega arith)
