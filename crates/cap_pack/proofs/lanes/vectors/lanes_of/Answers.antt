use Rattle.std.proofs.Common.{arith, length-append, replicate, ◌++◌}
use Rattle.std.proofs.lemmas.Simd.{pick_l_whole}
use Rattle.cap_pack.proofs.lanes.vectors.lanes_of.Goals as goal

pub returns : goal.returns
returns c = pick_l_whole 0 (c.args.bytes ++ replicate 8 c.args.above) 16 (omega (arith, length-append c.args.bytes (replicate 8 c.args.above)))
