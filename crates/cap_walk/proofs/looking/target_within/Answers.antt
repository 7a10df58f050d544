use Rattle.std.proofs.Common.{arith, ◌+◌, ◌≤◌}
use Rattle.cap_ptr.specs.Levels.{levels_of}
use Rattle.cap_walk.proofs.Looks.{looks_object}
use Rattle.cap_walk.proofs.looking.target_within.Goals as goal

pub returns : goal.returns
returns c = λ m s w f.
    let x = c.args.target.now in
    let shallow : c.args.level + levels_of x.shape ≤ c.depth.result = omega (arith, c.if-deepest-depth.false, c.levels_taken.ensures.value) in rw c.of.ensures (
      _,
      _,
      _,
      f.0,
      f.1,
      looks_object f.0 f.1 x c.run_of-run.result f.2 c.levels_taken.ensures.value
          (omega (arith, c.depth.ensures.value, shallow)) (omega (arith, c.words.ensures.value, c.if-consumed-target.false)) c.requires.consumed
          (c.run_of-run.ensures.places m s w f.0 f.1 f.2) (c.run_of-run.ensures.inside m s w f.0 f.1 f.2)
          (c.run_of-run.ensures.rises _ (omega (arith, c.depth.ensures.value, shallow))),
    )
