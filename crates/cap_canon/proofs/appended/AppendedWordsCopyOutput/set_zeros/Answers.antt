use Rattle.std.proofs.Common.{arith}
use Rattle.cap_spec.proofs.Bytes.Plain.{words_exact}
use Rattle.cap_canon.proofs.appended.AppendedWordsCopyOutput.set_zeros.Goals as goal

pub write_zeros-requires : goal.write_zeros-requires
write_zeros-requires c = omega (arith, c.requires, words_exact c.args.self.now.bytes.items)
