use Rattle.cap_frame.proofs.AfterTable.{segments_are}
use Rattle.cap_frame.proofs.framed.Framed.count.Goals as goal

pub returns : goal.returns
returns c = let f = c.args.self.now in segments_are f.bytes.now f.count f.words f.total f.inside
