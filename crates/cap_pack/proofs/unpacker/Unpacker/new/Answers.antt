use Rattle.cap_pack.proofs.Steps.{new_cut, new_places, new_words}
use Rattle.cap_pack.proofs.unpacker.Unpacker.new.Goals as goal

pub returns-clause-words : goal.returns-clause-words
returns-clause-words g c = new_words (g.I.ByteIn.to_come c.args.input)

pub returns-clause-is_cut : goal.returns-clause-is_cut
returns-clause-is_cut g c = new_cut (g.I.ByteIn.to_come c.args.input)

pub returns-clause-places : goal.returns-clause-places
returns-clause-places g c = new_places (g.I.ByteIn.to_come c.args.input)
