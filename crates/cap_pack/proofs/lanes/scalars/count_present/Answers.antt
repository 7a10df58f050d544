use Rattle.std.proofs.Common.{arith}
use Rattle.cap_pack.proofs.Shuffles.{present_and_zeros}
use Rattle.cap_pack.proofs.WordTags.{count_by_bits}
use Rattle.cap_pack.proofs.lanes.scalars.count_present.Goals as goal

pub returns-clause-few : goal.returns-clause-few
returns-clause-few c = omega (arith, count_by_bits c.args.word c.present_bits.result c.present_bits.ensures, present_and_zeros c.args.word)

pub returns-clause-count : goal.returns-clause-count
returns-clause-count c = count_by_bits c.args.word c.present_bits.result c.present_bits.ensures
