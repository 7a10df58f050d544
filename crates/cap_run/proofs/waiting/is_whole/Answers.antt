use Rattle.std.proofs.lemmas.Bool.{false≢true}
use Rattle.cap_run.proofs.waiting.is_whole.Goals as goal

pub returns-in-Err : goal.returns-in-Err
returns-in-Err c = (
  λ e. absurd (false≢true e),
  λ shown. absurd (c.in-Err.ensures.decides.whole shown.0 shown.1 shown.2),
)
