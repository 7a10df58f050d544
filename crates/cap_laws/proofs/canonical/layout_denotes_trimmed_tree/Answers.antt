use Rattle.cap_spec.proofs.Canonical.Layouts.{trimmed_layout_denotes}
use Rattle.cap_laws.proofs.canonical.layout_denotes_trimmed_tree.Goals as goal

pub returns : goal.returns
returns c = trimmed_layout_denotes
