use Rattle.cap_spec.proofs.ProofNames.{sum, ◌*◌, ◌≡◌, ◌≤◌, plain_words}
use Rattle.cap_frame.specs.Fronts.{sizes_given}
use Rattle.cap_frame.proofs.front.total_given.Given as goal

-- the sizes so far are summed, each below 2 ^ 32
abbrev pub invariant-sizes : goal.invariant-sizes
invariant-sizes l = record { total : l.words ≡ sum (sizes_given l.s (plain_words l.bytes)); small : l.words ≤ l.s * 4294967296 }
