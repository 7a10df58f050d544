use Rattle.cap_ptr.proofs.forms.code.Goals as goal

pub returns : goal.returns
returns c = c.bits.ensures
