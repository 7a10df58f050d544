-- Words with nothing below them.
use Rattle.cap_spec.proofs.Pointers.Following.{cap-not_wrong, null-not_wrong}
use Rattle.cap_spec.proofs.ProofNames.{HasWord, List, None, arith, near, refl, ℕ, Leads, to_cap, to_null}
use Rattle.cap_trace.specs.TraceNames.{GoesBelow, Object}
use Rattle.cap_trace.proofs.Onward.{cap_finds_none, leaf_trail, null_finds_none}

-- A null word leads to null.
pub null_leads : (m : List (List ℕ)) (s w : ℕ) → HasWord m s w 0 → Leads m s w 0 to_null
null_leads m s w null = near 0 null (omega arith) refl refl

-- Nothing is below a pointer that leads to null,
pub nothing_below : (m : List (List ℕ)) (depth k s w level : ℕ) → Leads m s w k to_null → GoesBelow m depth s w level (Object None)
nothing_below m depth k s w level lead = (
  (null-not_wrong m _ _ _ lead, λ (k', t, b, q, tag, finds, tagged, past). null_finds_none m _ _ _ lead k' t b q finds),
  tt,
  tt,
  (λ seen path ahead t. leaf_trail m seen _ ahead t (null_finds_none m _ _ _ lead)),
)

-- or to a capability.
pub cap_below : (m : List (List ℕ)) (depth k i s w level : ℕ) → Leads m s w k (to_cap i) → GoesBelow m depth s w level (Object None)
cap_below m depth k i s w level lead = (
  (cap-not_wrong m s w k i lead, λ (k', t, b, q, tag, finds, tagged, past). cap_finds_none m i lead k' t b q finds),
  tt,
  tt,
  (λ seen path ahead t. leaf_trail m seen _ ahead t (cap_finds_none m i lead)),
)
