use Rattle.cap_spec.proofs.Canonical.Offsets.{offsets_fit}
use Rattle.cap_laws.proofs.canonical.offsets_fit.Goals as goal

pub returns : goal.returns
returns c = offsets_fit
