use Rattle.cap_spec.proofs.ProofNames.{rules}
use Rattle.std.proofs.Common.{arith}
use Rattle.cap_frame.proofs.Cuts.{cut_length, cut_words}
use Rattle.cap_frame.proofs.byte_message.ByteViewSegments.len.Goals as goal

pub bounds-self-s : goal.bounds-self-s
bounds-self-s c = omega (arith, cut_length c.args.self.now.sizes.now c.args.self.now.bytes.now, c.requires)

pub returns : goal.returns
returns c = search (rules, cut_length, cut_words)
