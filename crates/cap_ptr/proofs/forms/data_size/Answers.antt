use Rattle.cap_ptr.proofs.forms.data_size.Goals as goal

pub returns : goal.returns
returns c = c.bits.ensures
