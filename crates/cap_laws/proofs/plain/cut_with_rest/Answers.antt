use Rattle.cap_spec.proofs.Bytes.Plain.{plain_cut_of}
use Rattle.cap_laws.proofs.plain.cut_with_rest.Goals as goal

pub returns : goal.returns
returns c = plain_cut_of
