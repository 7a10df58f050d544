use Rattle.capvet_c.proofs.capvet_version.Goals as goal

pub returns : goal.returns
returns c = c.version.ensures
