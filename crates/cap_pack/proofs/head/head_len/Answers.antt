use Rattle.std.proofs.Common.{arith, sym}
use Rattle.cap_pack.proofs.Heads.{head_rest-ones, head_rest-plain, head_rest-zeros, ones_some}
use Rattle.cap_pack.proofs.head.head_len.Goals as goal

pub returns-in-0-clause-rest : goal.returns-in-0-clause-rest
returns-in-0-clause-rest c = sym (head_rest-zeros c.args.tag c.in-0.is)

pub returns-in-255-clause-rest : goal.returns-in-255-clause-rest
returns-in-255-clause-rest c = sym (head_rest-plain c.args.tag c.in-255.is)

pub returns-in_default-clause-rest : goal.returns-in_default-clause-rest
returns-in_default-clause-rest c = head_rest-ones c.args.tag (omega arith) (omega arith) (omega arith)

pub returns-in_default-clause-some : goal.returns-in_default-clause-some
returns-in_default-clause-some c = ones_some c.args.tag (omega arith) (omega arith)
