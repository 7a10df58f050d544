use Rattle.std.specs.Prelude.{None, codes}
use Rattle.std.proofs.Common.{refl}
use Rattle.json.specs.Print.{escape_byte}
use Rattle.cap_json_laws.proofs.Escapes.{plain_same}
use Rattle.cap_json_laws.proofs.Explaining.{explained_line}
use Rattle.cap_json_laws.proofs.explained_overlap_reads_back.Goals as goal

pub returns : goal.returns
unfolding escape_byte
returns c = λ n s w p path sentence fits h plain.
    explained_line n (codes "Overlap") s w p path sentence None refl (plain_same sentence plain) fits h.0 h.1 h.2 tt
