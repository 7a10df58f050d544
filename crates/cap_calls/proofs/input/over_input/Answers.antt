-- The input is words or a frame.
use Rattle.std.proofs.Common.{refl, sym, ◌∙◌}
use Rattle.cap_calls.specs.CallInputs.{of_frame}
use Rattle.cap_calls.proofs.input.over_input.Goals as goal

pub returns-then-has_no_table : goal.returns-then-has_no_table
returns-then-has_no_table g c = (c.over_words-found.result, c.over_words-found.ensures c.args.whole, (refl, refl), refl)

pub returns : goal.returns
returns g c = (
  c.over-found.result,
  of_frame (sym c.has_no_table.ensures ∙ c.if-has_no_table.false) c.over-found.ensures,
  (refl, refl),
  refl,
)
