-- The places of structs in a row.
use Rattle.std.proofs.lemmas.Nat.{mul-add-lt}
use Rattle.cap_spec.proofs.ProofNames.{List, arith, length, ℕ, ◌*◌, ◌+◌, ◌<◌, ◌≤◌, segment_of}

-- A word of one of them is inside the segment.
pub row_inside : (m : List (List ℕ)) (t b n each k last : ℕ) → b + n * each ≤ length (segment_of m t) → k < n → last < each
    → b + k * each + last < length (segment_of m t)
row_inside m t b n each k last inside lt less =
    let e = mul-add-lt k each last n lt less in omega (arith, e, inside)
