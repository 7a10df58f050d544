use Rattle.std.proofs.Common.{sym, ◌∙◌}
use Rattle.cap_cmd.proofs.running.report_first.Goals as goal

pub returns-then-explains : goal.returns-then-explains
returns-then-explains g c = rw (sym c.explains.ensures ∙ c.if-explains.true) c.report_explained.ensures

pub returns-then-guesses : goal.returns-then-guesses
returns-then-guesses g c =
    rw (sym c.explains.ensures ∙ c.if-explains.false, sym c.guesses.ensures ∙ c.if-guesses.true) c.report_guessed.ensures

pub returns : goal.returns
returns g c = rw (sym c.explains.ensures ∙ c.if-explains.false, sym c.guesses.ensures ∙ c.if-guesses.false) c.report_run.ensures
