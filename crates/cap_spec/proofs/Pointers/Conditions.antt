-- The conditions of the reasons at a word, and their order.
use Rattle.cap_spec.proofs.Frames.Messages.{HasWord-inside, at_word, one_word}
use Rattle.cap_spec.proofs.ProofNames.{List, arith, length, subst, sym, ℕ, ◌+◌, ◌<◌, ◌≡◌, ◌≢◌, Condition, IsOnePad}
use Rattle.cap_spec.proofs.ProofNames.{IsTwoPad, rank, HasWord, segment_of, IsFar, IsReserved, far_segment, kind}
use Rattle.cap_spec.proofs.ProofNames.{middle, pad, two, Reason, PadIsFar, PadNotFar, PadOutside, Reserved}
use Rattle.cap_spec.proofs.ProofNames.{SegmentMissing, TagKind, TagOffset, common_steps, rules}

-- Which conditions don't hold, by the form of the word. It is far, and the segment of its pad is missing, or the pad is
-- outside of it:
module _ (m : List (List ℕ)) (s w p : ℕ) (h : HasWord m s w p) (far : IsFar p) where
  far-not_reserved : ((x q : ℕ) → HasWord m s w x → IsOnePad x → HasWord m (far_segment x) (pad x) q → ⊥)
      → ¬ Condition m s w Reserved
  far-not_reserved n x1 = search rules

  pub outside-not_reserved : length (segment_of m (far_segment p)) < pad p + (two p + 1) → ¬ Condition m s w Reserved
  outside-not_reserved past = search (rules, far-not_reserved, one_word, HasWord-inside)

  pub outside-not_missing : far_segment p < length m → length (segment_of m (far_segment p)) < pad p + (two p + 1)
      → ¬ Condition m s w SegmentMissing
  outside-not_missing exists past x2 = search (rules, one_word, HasWord-inside)

-- it has a one-word pad inside its segment:
module _ (m : List (List ℕ)) (s w p q : ℕ) (h : HasWord m s w p) (one : IsOnePad p)
    (hq : HasWord m (far_segment p) (pad p) q) where
  one-same : (x y : ℕ) → HasWord m s w x → HasWord m (far_segment x) (pad x) y → y ≡ q
  one-same x y hx hy = grind (arith, common_steps)

  one-not_two : (x : ℕ) → HasWord m s w x → two x ≡ 1 → ⊥
  one-not_two x hx both = grind (arith, common_steps)

  pub one-not_reserved : ¬ IsReserved q → ¬ Condition m s w Reserved
  one-not_reserved n x1 = search (rules, one-same)

  pub one-not_missing : ¬ Condition m s w SegmentMissing
  one-not_missing x0 = grind (arith, common_steps, one-not_two)

  pub one-not_outside : ¬ Condition m s w PadOutside
  one-not_outside (x, hx, f, past) = search (rules, at_word, HasWord-inside)

  pub one-not_pad_far : kind q ≢ 2 → ¬ Condition m s w PadIsFar
  one-not_pad_far n (x, y, hx, single, hy, f) = n (subst IsFar (one-same x y hx hy) f)

  pub one-not_pad_near : ¬ Condition m s w PadNotFar
  one-not_pad_near (x, f, y, hx, both, hf, hy, n) = one-not_two x hx both.1

-- it has a two-word pad inside its segment:
module _ (m : List (List ℕ)) (s w p f q : ℕ) (h : HasWord m s w p) (both : IsTwoPad p)
    (hf : HasWord m (far_segment p) (pad p) f) (hq : HasWord m (far_segment p) (pad p + 1) q) where
  two-same_far : (x y : ℕ) → HasWord m s w x → HasWord m (far_segment x) (pad x) y → y ≡ f
  two-same_far x y hx hy = grind (arith, common_steps)

  two-same_tag : (x y : ℕ) → HasWord m s w x → HasWord m (far_segment x) (pad x + 1) y → y ≡ q
  two-same_tag x y hx hy = grind (arith, common_steps)

  two-not_one : (x : ℕ) → HasWord m s w x → IsOnePad x → ⊥
  two-not_one x hx one = grind (arith, common_steps)

  pub two-not_reserved : ¬ Condition m s w Reserved
  two-not_reserved x0 = search (rules, two-not_one)

  pub two-not_missing : (IsOnePad f → far_segment f < length m) → ¬ Condition m s w SegmentMissing
  two-not_missing n x1 = grind (arith, common_steps)

  pub two-not_outside : ¬ Condition m s w PadOutside
  two-not_outside (x, hx, far, past) = search (rules, at_word, HasWord-inside)

  pub two-not_pad_far : ¬ Condition m s w PadIsFar
  two-not_pad_far (x, y, hx, single, hy, far) = two-not_one x hx single

  pub two-not_pad_near : IsOnePad f → ¬ Condition m s w PadNotFar
  two-not_pad_near single (x, u, v, hx, t, hu, hv, n) = n (subst IsOnePad (sym (two-same_far x u hx hu)) single)

  pub two-not_tag_kind : kind q < 2 → ¬ Condition m s w TagKind
  two-not_tag_kind near_kind (x, u, v, hx, t, hu, hv, n) = grind (arith, common_steps)

  pub two-not_tag_offset : middle q ≡ 0 → ¬ Condition m s w TagOffset
  two-not_tag_offset x0 x1 = search (rules, two-same_tag)

-- no condition of a reason before place n of the order holds
abbrev pub NoneBelow : List (List ℕ) → ℕ → ℕ → ℕ → Type 0
NoneBelow m s w n = (u : Reason) → rank u < n → ¬ Condition m s w u

pub none_below_reserved : (m : List (List ℕ)) (s w : ℕ) → NoneBelow m s w (rank Reserved)
none_below_reserved m s w u lt c = search rules

-- one more condition that doesn't hold
pub and_not : (m : List (List ℕ)) (s w : ℕ) (v : Reason) → NoneBelow m s w (rank v) → ¬ Condition m s w v
    → NoneBelow m s w (rank v + 1)
and_not m s w v below n u lt c = grind (arith, common_steps)

-- With a two-word pad inside its segment, nothing is wrong up to the first word of the pad, or up to its tag.
module _ (m : List (List ℕ)) (s w p f q : ℕ) (h : HasWord m s w p) (both : IsTwoPad p)
    (hf : HasWord m (far_segment p) (pad p) f) (hq : HasWord m (far_segment p) (pad p + 1) q) where
  pub two-none_below_far : (IsOnePad f → far_segment f < length m) → NoneBelow m s w (rank PadNotFar)
  two-none_below_far n =
      search (rules, and_not, none_below_reserved, two-not_reserved, two-not_missing, two-not_outside, two-not_pad_far)

  pub two-none_below_tag : IsOnePad f → far_segment f < length m → NoneBelow m s w (rank TagKind)
  two-none_below_tag one there = search (rules, and_not, two-none_below_far, two-not_pad_near)
