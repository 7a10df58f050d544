use Rattle.cap_walk.proofs.Near.{looks_row, row_inside}
use Rattle.cap_walk.proofs.looking.row_within.Goals as goal
use Rattle.cap_spec.proofs.ProofNames.{rules, arith}

pub returns : goal.returns
returns c = λ m s w at q f lies.
    let run = c.row_run-run in
    rw (c.from.ensures, c.from-2.ensures) (looks_row m _ _ c.args.consumed s w c.args.level c.args.pads c.args.segment
    at q c.args.row.now run.result f lies (omega (arith, c.if-level-depth.false, c.depth.ensures.value))
    (search rules) c.requires.consumed run.ensures.places (search (rules, row_inside)) run.ensures.level)
