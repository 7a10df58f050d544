use Rattle.cap_spec.proofs.ProofNames.{ℕ, ◌*◌, ◌+◌, ◌<◌, ◌≡◌, HasWord}
use Rattle.cap_canon.proofs.wholeness.first_set.Given as goal

abbrev pub invariant-elements : goal.invariant-elements
invariant-elements g l = record {
  place : l.place ≡ l.at + l.counter * l.each;
  zeros : (k : ℕ) → k < l.counter → HasWord (g.M.Segments.segments l.message) l.s (l.at + k * l.each) 0;
}
