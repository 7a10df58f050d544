use Rattle.cap_frame.specs.Limit.{limit_of}
use Rattle.cap_frame.proofs.FrontAnswers.{decides_front}
use Rattle.cap_frame.proofs.front.front_of.Goals as goal

pub returns-clause-decides : goal.returns-clause-decides
returns-clause-decides c = decides_front (limit_of c.args.limit) c.args.bytes.now c.read_front.result c.read_front.ensures
