use Rattle.cap_spec.proofs.Packed.Unpacking.{plain_reads}
use Rattle.cap_laws.proofs.plain.plain_reads_back.Goals as goal

pub returns : goal.returns
returns c = plain_reads
