use Rattle.cap_frame.specs.Limit.{limit_of}
use Rattle.cap_walk.specs.Limits.{depth_of, words_of}
use Rattle.cap_run.specs.Making.{CopiesSoFar}
use Rattle.cap_run.proofs.engines.canon.put_copies.Given as goal

abbrev pub invariant-loop-number : goal.invariant-loop-number
invariant-loop-number g l =
    CopiesSoFar g.S.WordSource g.K.WordSink l.demands (words_of l.settings.limits) (depth_of l.settings.limits)
    (limit_of l.settings.size) l.initial.source l.source l.initial.sink l.sink l.number
