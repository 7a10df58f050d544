use Rattle.cap_frame.proofs.AfterTable.{words_are}
use Rattle.cap_frame.proofs.framed.Framed.words.Goals as goal

pub returns-clause-total : goal.returns-clause-total
returns-clause-total c = let f = c.args.self.now in words_are f.bytes.now f.count f.words f.total f.inside
