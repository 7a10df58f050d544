use Rattle.cap_spec.proofs.ProofNames.{length, ◌≡◌, plain_words}
use Rattle.cap_frame.specs.Fronts.{sizes_given}
use Rattle.cap_frame.proofs.framed.fill_sizes.Given as goal

-- the sizes so far
abbrev pub invariant-sizes : goal.invariant-sizes
invariant-sizes l = record { reported : l.sizes.items ≡ sizes_given l.s (plain_words l.bytes); many : length l.sizes.items ≡ l.s }
