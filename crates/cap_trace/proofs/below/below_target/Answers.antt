use Rattle.std.proofs.Common.{List, arith, inr, refl, subst, sym, ◌++◌, ◌∷◌}
use Rattle.cap_spec.proofs.Pointers.Following.{object-not_wrong}
use Rattle.cap_walk.specs.Trails.{Ahead, IsTrail}
use Rattle.cap_walk.proofs.OneTrail.{object_trail}
use Rattle.cap_trace.proofs.Objects.{levels_shape, not_deep}
use Rattle.cap_trace.proofs.below.below_target.Goals as goal

pub returns-then-level-levels_taken : goal.returns-then-level-levels_taken
returns-then-level-levels_taken c = λ m s w f.
    inr (
      _,
      _,
      _,
      f.0,
      f.1,
      f.2.finds,
      (λ h. (f.2.object.tagged h).0),
      omega (arith, c.levels_taken.ensures.value, levels_shape f.0 f.1 f.1 _ f.2.object.shape (λ h. refl)),
    )

pub returns : goal.returns
returns c = λ m s w f. (
  (object-not_wrong m s w _ _ _ f.0 f.2.finds, not_deep m c.args.depth _ _ c.args.level f.0 f.1 _ f.2 (omega (arith, c.levels_taken.ensures.value))),
  c.branch_of.ensures.branch m _ _ f.0 f.1 c.args.depth c.args.level f.2 (omega (arith, c.levels_taken.ensures.value)),
  c.branch_of.ensures.steps m _ _ f.0 f.1 f.2,
  (λ seen path ahead t. subst (λ (u : List Ahead). IsTrail m (path ∷ seen) (u ++ ahead))
      (sym (c.branch_of.ensures.words m _ _ f.0 f.1 f.2 path c.args.level))
      (object_trail m seen _ ahead _ _ _ f.0 f.1 t f.2.finds (λ h. (f.2.object.tagged h).0))),
)
