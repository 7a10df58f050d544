use Rattle.cap_spec.proofs.Pointers.Following.{one_lead}
use Rattle.cap_laws.proofs.following.one_lead.Goals as goal

pub returns : goal.returns
returns c = one_lead
