use Rattle.cap_spec.proofs.ProofNames.{rules}
use Rattle.std.proofs.Common.{None, ℕ, ◌≡◌}
use Rattle.cap_path.specs.PathReading.{number_with}
use Rattle.cap_path.proofs.reading.longer_number.Goals as goal

-- no digit goes on after a zero
after_zero : (b most : ℕ) → None ≡ number_with 0 b most
after_zero b most = search rules

pub returns-then-n-eq0 : goal.returns-then-n-eq0
returns-then-n-eq0 c = rw c.if-n-eq0.true (after_zero c.args.byte c.args.most)
