use Rattle.cap_canon.proofs.length.length_of.Goals as goal

pub returns : goal.returns
returns g c = λ t x d h. (c.walk.ensures.done t x d h).0
