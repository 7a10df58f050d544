use Rattle.cap_spec.proofs.ProofNames.{arith}
use Rattle.cap_vet.proofs.UsedPlaces.{far_alone, near_alone}
use Rattle.cap_vet.proofs.exclusiveness.marks.in_a_row.Goals as goal

pub returns-then-kind-ne2 : goal.returns-then-kind-ne2
returns-then-kind-ne2 g c =
    near_alone c.word-word.ensures (λ far. omega (arith, c.if-kind-ne2.true, c.kind.ensures, far)) c.requires.object

pub returns : goal.returns
returns g c =
    far_alone c.word-word.ensures (omega (arith, c.if-kind-ne2.false, c.kind.ensures)) (omega (arith, c.far_segment.ensures, c.if-far_segment-object.false))
    c.pad-start.ensures (omega (arith, c.from-pads.ensures, c.two.ensures)) (omega (arith, c.if-start-pads.false)) c.requires.object
