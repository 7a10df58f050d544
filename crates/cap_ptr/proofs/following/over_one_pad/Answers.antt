use Rattle.cap_spec.proofs.ProofNames.{rules}
use Rattle.cap_ptr.proofs.Pads.{lies-one_pad}
use Rattle.cap_ptr.proofs.following.over_one_pad.Goals as goal

pub returns : goal.returns
returns g c = search (rules, lies-one_pad)
