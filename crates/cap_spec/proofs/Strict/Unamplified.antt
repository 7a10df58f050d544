-- The word limit that follows from what was sent: what it bounds, which refusals it adds,
-- and that a copy may be past it.
use Rattle.cap_spec.specs.Faults.{is_wrong}
use Rattle.cap_spec.proofs.Canonical.Sizes.{layout_charged}
use Rattle.cap_spec.proofs.Disjoint.Bounds.{charge_below_words}
use Rattle.cap_spec.proofs.Frames.Endings.{length_joined}
use Rattle.cap_spec.proofs.ProofNames.{List, [], arith, inl, inr, length, length-append, sum, ℕ, ◌+◌, ◌-◌, ◌↔◌, ◌∷◌}
use Rattle.cap_spec.proofs.ProofNames.{◌≡◌, ◌≤◌, ◌⊎◌, HasCopy, Denotes, IsFaultAt, IsFirstReason, IsRefused, is_deep}
use Rattle.cap_spec.proofs.ProofNames.{is_past, frame_text, joined, paired, sizes_of, IsDisjoint, empty_count, Tree}
use Rattle.cap_spec.proofs.ProofNames.{unamplified, WordLimit, Refusal, rules}
use Rattle.cap_spec.proofs.Verdicts.KeptBefore.{kept_before}
use Rattle.cap_spec.proofs.Verdicts.OneFault.{first_fault_kept}

-- a charge is within the limit where it is within the words given, and within the words of the segments with the slack
pub within_both : (m : List (List ℕ)) (words c : ℕ) → c ≤ unamplified m words
    ↔ (c ≤ words) × (c ≤ sum (sizes_of m) + 4096)
within_both m words c = ((λ h. (omega (arith, h), omega (arith, h))), (λ h. omega (arith, h.0, h.1)))

-- A message that uses no word twice is charged its words at most, but for elements without bits or words.
pub disjoint_unamplified : (m : List (List ℕ)) (t : Tree) (c d words : ℕ) → Denotes m 0 0 t c d → IsDisjoint m
    → empty_count t ≤ 4097 → c ≤ words
    → c ≤ unamplified m words
disjoint_unamplified m t c d words h apart few le = search (rules, within_both, charge_below_words)

-- a copy has at most one word more than is charged
pub copy_length : (m : List (List ℕ)) (words : List ℕ) (limit : ℕ) → (k : HasCopy m words)
    → k.charge ≤ unamplified m limit
    → length words ≤ sum (sizes_of m) + 4097
copy_length m words limit k h = search (rules, layout_charged, within_both)

-- numbers in pairs are a word at least
paired_some : (x : ℕ) (xs : List ℕ) → 1 ≤ length (paired (x ∷ xs))
paired_some x x1 = search rules

-- and so is its frame longer than the message's
pub copy_frame_length : (m : List (List ℕ)) (words : List ℕ) (limit : ℕ) → (k : HasCopy m words)
    → k.charge ≤ unamplified m limit
    → length (frame_text (words ∷ [])) ≤ length (frame_text m) + 4097
copy_frame_length m words limit k h =
    let a : length (frame_text (words ∷ [])) ≡ 1 + length (joined (words ∷ [])) =
    length-append (paired (0 ∷ length words ∷ [])) (joined (words ∷ [])) in
    let b : length (frame_text m) ≡ length (paired ((length m - 1) ∷ sizes_of m)) + length (joined m) =
    length-append (paired ((length m - 1) ∷ sizes_of m)) (joined m) in
    omega (
      arith,
      a,
      b,
      length_joined (words ∷ []),
      length_joined m,
      paired_some (length m - 1) (sizes_of m),
      copy_length m words limit k h,
    )

-- The refusals that a smaller word limit adds are by this limit.
pub added_refusals : (m : List (List ℕ)) (few words depth : ℕ) (refusal : Refusal) → few ≤ words
    → IsRefused m few depth refusal
    → IsRefused m words depth refusal ⊎ (refusal.reason ≡ WordLimit)
added_refusals m few words depth refusal le (inl h) = inl (inl h)
added_refusals m few words depth refusal le (inr f) = by_reason f.fault.reason
  where
    again : IsFirstReason m words depth f.fault.charge refusal.segment refusal.word f.fault.numbered.level refusal.reason
        → IsRefused m words depth refusal
    again reason =
        let fault : IsFaultAt m words depth f.path refusal = record {
          numbered = f.fault.numbered;
          before = f.fault.before;
          charge = f.fault.charge;
          whole = f.fault.whole;
          costs = f.fault.costs;
          reason = reason;
        } in
        let kept = kept_before f in
        inr (first_fault_kept fault (omega (arith, kept.0, le)) kept.1 (omega (arith, f.few, le)))

    by_reason : IsFirstReason m few depth f.fault.charge refusal.segment refusal.word f.fault.numbered.level refusal.reason
        → IsRefused m words depth refusal ⊎ (refusal.reason ≡ WordLimit)
    by_reason (is_wrong h) = inl (again (is_wrong h))
    by_reason (is_deep e h) = inl (again (is_deep e h))
    by_reason (is_past cost e none costs past) = inr e
