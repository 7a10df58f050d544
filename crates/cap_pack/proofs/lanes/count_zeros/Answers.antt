use Rattle.std.proofs.Common.{arith}
use Rattle.cap_pack.proofs.Shuffles.{present_and_zeros}
use Rattle.cap_pack.proofs.lanes.count_zeros.Goals as goal

pub returns : goal.returns
returns c = omega (arith, present_and_zeros c.args.word, c.count_present.ensures.count)
