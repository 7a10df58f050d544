use Rattle.std.proofs.Common.{subst}
use Rattle.cap_frame.specs.Limit.{limit_of}
use Rattle.cap_walk.specs.Limits.{depth_of, words_of}
use Rattle.cap_run.specs.RunNames.{Demands, MakesCopiesUnder}
use Rattle.cap_run.proofs.Demanding.{default_none}
use Rattle.cap_run.proofs.engines.canon.run_canon.Goals as goal

pub returns : goal.returns
returns g c =
    let s = c.args.settings.now in
    subst (λ (d : Demands). MakesCopiesUnder g.S.WordSource g.K.WordSink d (words_of s.limits) (depth_of s.limits)
    (limit_of s.size) s.messages c.args.source.now c.run_canon_with.new.source c.args.sink.now c.run_canon_with.new.sink
    c.run_canon_with.result)
    (default_none c.default.result c.default.ensures.0 c.default.ensures.1) c.run_canon_with.ensures
