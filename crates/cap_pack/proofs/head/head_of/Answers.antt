use Rattle.cap_spec.proofs.ProofNames.{ap, arith, ◌∙◌, spread}
use Rattle.cap_pack.proofs.Heads.{first_word-marked, first_word-plain, first_word-zeros, plain_of-others}
use Rattle.cap_pack.proofs.Heads.{plain_of-plain, spread_eight, zeros_of-others, zeros_of-zeros}
use Rattle.cap_pack.proofs.head.head_of.Goals as goal

pub returns-in-0-clause-word : goal.returns-in-0-clause-word
returns-in-0-clause-word c = first_word-zeros c.args.tag c.args.buffer.now c.in-0.is

pub returns-in-0-clause-zeros : goal.returns-in-0-clause-zeros
returns-in-0-clause-zeros c = zeros_of-zeros c.args.tag c.args.buffer.now c.in-0.is

pub returns-in-0-clause-plain : goal.returns-in-0-clause-plain
returns-in-0-clause-plain c = plain_of-others c.args.tag c.args.buffer.now (omega arith)

pub returns-in-255-clause-word : goal.returns-in-255-clause-word
returns-in-255-clause-word c = c.read_u64.ensures ∙ first_word-plain c.args.tag c.args.buffer.now c.in-255.is

pub returns-in-255-clause-zeros : goal.returns-in-255-clause-zeros
returns-in-255-clause-zeros c = zeros_of-others c.args.tag c.args.buffer.now (omega arith)

pub returns-in-255-clause-plain : goal.returns-in-255-clause-plain
returns-in-255-clause-plain c = plain_of-plain c.args.tag c.args.buffer.now c.in-255.is

pub returns-in_default-clause-word : goal.returns-in_default-clause-word
returns-in_default-clause-word c = c.scatter.ensures
    ∙ (ap (spread 8 c.args.tag) c.copy_from_slice.ensures.after ∙ spread_eight c.args.tag c.args.buffer.now (omega arith))
    ∙ first_word-marked c.args.tag c.args.buffer.now (omega arith) (omega arith)

pub returns-in_default-clause-zeros : goal.returns-in_default-clause-zeros
returns-in_default-clause-zeros c = zeros_of-others c.args.tag c.args.buffer.now (omega arith)

pub returns-in_default-clause-plain : goal.returns-in_default-clause-plain
returns-in_default-clause-plain c = plain_of-others c.args.tag c.args.buffer.now (omega arith)
