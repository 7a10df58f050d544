use Rattle.std.specs.Prelude.{codes}
use Rattle.std.proofs.Common.{refl}
use Rattle.json.specs.Print.{escape_byte}
use Rattle.cap_json_laws.proofs.Lines.{refused_line}
use Rattle.cap_json_laws.proofs.overlap_reads_back.Goals as goal

pub returns : goal.returns
unfolding escape_byte
returns c = λ n s w p fits h. refused_line n (codes "Overlap") s w p refl fits h.0 h.1 h.2
