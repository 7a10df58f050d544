use Rattle.std.proofs.Common.{arith, length, refl, ◌-◌}
use Rattle.cap_pack.proofs.GroupsEncoded.{run_zeros, zeros_one}
use Rattle.cap_pack.proofs.packer.Packer.open.Goals as goal

pub invariant_of-self-then-first-eq0 : goal.invariant_of-self-then-first-eq0
invariant_of-self-then-first-eq0 g c = record { one_group = zeros_one (length c.args.words.now - 1) (omega (arith, c.requires.few)); full_first = refl }

pub returns-then-first-eq0-clause-held : goal.returns-then-first-eq0-clause-held
returns-then-first-eq0-clause-held g c = run_zeros c.args.words.now c.requires.run (omega arith) c.if-first-eq0.true
