use Rattle.cap_text.proofs.verdict.name_of.Goals as goal

pub returns-in-PadIsFar-clause-name : goal.returns-in-PadIsFar-clause-name
returns-in-PadIsFar-clause-name c = rw c.in-PadIsFar.is
