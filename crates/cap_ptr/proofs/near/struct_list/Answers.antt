use Rattle.cap_spec.proofs.ProofNames.{ap, arith, kind}
use Rattle.cap_ptr.specs.Shapes.{HasListAt}
use Rattle.cap_ptr.proofs.Pads.{object-lead}
use Rattle.cap_ptr.proofs.near.struct_list.Goals as goal

pub returns-in-Ok-clause-found : goal.returns-in-Ok-clause-found
returns-in-Ok-clause-found g c = λ s w lies.
    let m = g.M.Segments.segments c.args.message.now in
    let here = c.in_ok-start.ensures in
    let has : HasListAt m c.args.segment c.in_ok-start.start c.args.word c.word.result =
    record { list = here.list; exists = c.requires.exists; inside = omega (arith, here.inside, c.len.ensures); has = c.word.ensures } in
    c.in-Ok.ensures.ok m s w has c.requires.pads
    (object-lead m s w c.args.pads c.args.segment c.args.at c.args.word _ lies (omega (arith, here.list.0))
    (λ z. omega (arith, here.list.0, ap kind z)) here.start)
