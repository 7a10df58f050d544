use Rattle.cap_text.proofs.segments.root_line.Goals as goal

pub returns-in-None : goal.returns-in-None
returns-in-None c = rw c.in-None.is c.rootless_line.ensures
