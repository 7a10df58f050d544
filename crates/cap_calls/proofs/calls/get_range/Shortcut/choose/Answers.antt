-- How the nodes after a start are found.
use Rattle.cap_spec.proofs.ProofNames.{[], ap, arith, eqb-true, length, refl, sym, ◌<◌, ◌∙◌, ◌∷◌, ◌≡◌, nat_tests}
use Rattle.cap_calls.specs.CallNames.{Step, CallStep}
use Rattle.cap_calls.proofs.RangeShortcut.{no_steps, one_step}
use Rattle.cap_calls.proofs.calls.get_range.Shortcut.choose.Goals as goal

pub returns-then-is_empty : goal.returns-then-is_empty
returns-then-is_empty g c = (
  ap g.M.Segments.segments c.in-Some.ensures.message,
  c.in-Some.ensures.elements,
  omega (arith, c.if-step-eq0.false),
  refl,
  no_steps c.args.rest.rest.now (eqb-true (length c.args.rest.rest.now) 0 (sym c.is_empty.ensures ∙ c.if-is_empty.true)),
)

pub returns-in-Ptr : goal.returns-in-Ptr
returns-in-Ptr g c =
    let none : CallStep = record { kind = 0; number = 0 } in
    let steps = c.args.rest.rest.now in
    let some : 0 < length steps = grind (arith, nat_tests, c.is_empty.ensures, c.if-is_empty.false) in
    let one : length steps ≡ 1 = omega (arith, some, c.if-rest-gt1.false) in (
      ap g.M.Segments.segments c.in-Some.ensures.message,
      c.in-Some.ensures.elements,
      omega (arith, c.if-step-eq0.false),
      refl,
      one_step steps none one ∙ ap (λ (s : Step). s ∷ []) (sym c.after.ensures ∙ c.in-Ptr.is),
    )
