use Rattle.std.proofs.Common.{ap, ◌+◌}
use Rattle.cap_run.proofs.LastLine.{no_sentence, sentence_is}
use Rattle.cap_run.proofs.engines.sentence.last_reason.Goals as goal

pub returns-then-start-lines : goal.returns-then-start-lines
returns-then-start-lines c = λ sentence r. no_sentence c.args.lines.now sentence r (c.last_start-start.result + 9)
    (ap (λ n. n + 9) (c.last_start-start.ensures.last sentence r)) c.if-start-lines.true

pub returns : goal.returns
returns c = λ sentence r. sentence_is c.args.lines.now sentence r (c.last_start-start.result + 9)
    (ap (λ n. n + 9) (c.last_start-start.ensures.last sentence r))
