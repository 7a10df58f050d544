use Rattle.cap_spec.proofs.Canonical.Sizes.{layout_charged}
use Rattle.cap_laws.proofs.canonical.layout_is_charged.Goals as goal

pub returns : goal.returns
returns c = layout_charged
