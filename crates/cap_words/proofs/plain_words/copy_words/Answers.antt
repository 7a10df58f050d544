use Rattle.cap_spec.proofs.Bytes.Lists.{all_take}
use Rattle.cap_spec.proofs.ProofNames.{arith, ◌<◌, common_steps}
use Rattle.cap_words.proofs.Buffered.{bytes_small}
use Rattle.cap_words.proofs.plain_words.copy_words.Goals as goal

pub returns-clause-bytes : goal.returns-clause-bytes
returns-clause-bytes c = all_take (λ b. b < 256) _ c.args.from.now (bytes_small c.args.from.now (λ i. c.type_inv.from i))

pub returns-clause-copied : goal.returns-clause-copied
returns-clause-copied c = grind (arith, common_steps)
