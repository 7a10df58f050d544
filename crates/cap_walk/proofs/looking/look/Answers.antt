use Rattle.std.proofs.Common.{arith, sym, ◌+◌, ◌≤◌}
use Rattle.cap_ptr.specs.Levels.{levels_of}
use Rattle.cap_walk.proofs.Looks.{looks_object}
use Rattle.cap_walk.proofs.looking.look.Goals as goal

pub returns-in-Null-clause-ok : goal.returns-in-Null-clause-ok
returns-in-Null-clause-ok g c =
    let h = rw c.in-Null.is at c.in_ok-followed.ensures.ok in
    (rw c.from-in-Null.ensures h.followed, omega (arith, c.from-in-Null.ensures, c.words.ensures.value, c.requires.consumed, h.within))

pub returns-in-Cap-clause-ok : goal.returns-in-Cap-clause-ok
returns-in-Cap-clause-ok g c =
    let h = rw c.in-Cap.is at c.in_ok-followed.ensures.ok in
    let lead = rw (sym c.from-in-Cap.ensures) at h.followed in
    ((_, lead), omega (arith, c.from-in-Cap.ensures, c.words.ensures.value, c.requires.consumed, h.within))

pub returns-in-Target-clause-ok : goal.returns-in-Target-clause-ok
returns-in-Target-clause-ok g c =
    let h = rw c.in-Target.is at c.in_ok-followed.ensures.ok in
    let f = h.followed in
    let shallow : c.args.level + levels_of c.in-Target.target.shape ≤ c.depth.result = omega (arith, c.from.ensures, h.shallow) in rw c.of.ensures (
      _,
      _,
      _,
      f.0,
      f.1,
      looks_object f.0 f.1 c.in-Target.target c.run_of-run.result f.2 c.levels_taken.ensures.value (omega (arith, c.depth.ensures.value, shallow))
          (omega (arith, c.words.ensures.value, h.within)) c.requires.consumed (c.run_of-run.ensures.places _ _ _ f.0 f.1 f.2)
          (c.run_of-run.ensures.inside _ _ _ f.0 f.1 f.2) (c.run_of-run.ensures.rises _ (omega (arith, c.depth.ensures.value, shallow))),
    )
