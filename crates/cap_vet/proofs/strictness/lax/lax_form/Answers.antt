use Rattle.cap_walk.proofs.PadForms.{cap_form, null_form}
use Rattle.cap_vet.proofs.strictness.lax.lax_form.Goals as goal
use Rattle.cap_spec.proofs.ProofNames.{rules, arith}

pub returns-then-landing-eq0-clause-some : goal.returns-then-landing-eq0-clause-some
returns-then-landing-eq0-clause-some g c =
    null_form _ c.args.s c.args.w c.word-word.result c.far_segment.result c.pad.result c.word-landing.result
    c.word-word.ensures (search rules) (omega (arith, c.if-two-eq1.false, c.two.ensures)) c.far_segment.ensures
    c.pad.ensures c.word-landing.ensures (omega (arith, c.if-landing-eq0.true))

pub returns-then-kind-eq3-clause-some : goal.returns-then-kind-eq3-clause-some
returns-then-kind-eq3-clause-some g c =
    cap_form _ c.args.s c.args.w c.word-word.result c.far_segment.result c.pad.result c.word-landing.result
    c.word-word.ensures
    (omega (arith, c.if-kind-ne2.false, c.kind.ensures)) (omega (arith, c.if-two-eq1.false, c.two.ensures))
    c.far_segment.ensures c.pad.ensures
    c.word-landing.ensures c.requires.followed.0 c.requires.followed.1
    (omega (arith, c.if-kind-eq3.true, c.kind-2.ensures))
