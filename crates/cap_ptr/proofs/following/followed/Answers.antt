use Rattle.cap_spec.proofs.ProofNames.{arith, refl, near, rules}
use Rattle.cap_ptr.proofs.Pads.{lies-near}
use Rattle.cap_ptr.proofs.following.followed.Goals as goal

pub returns-then-word-eq0 : goal.returns-then-word-eq0
returns-then-word-eq0 g c =
    let e = c.if-word-eq0.true in
    near c.word-word.result c.word-word.ensures (omega (arith, e)) e refl

pub returns-then-kind-ne2 : goal.returns-then-kind-ne2
returns-then-kind-ne2 g c = search (rules, lies-near)
