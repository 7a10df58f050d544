use Rattle.std.proofs.Common.{Err, List, Ok, subst, ℕ, ◌≡◌}
use Rattle.cap_frame.specs.Limit.{limit_of}
use Rattle.cap_run.specs.RunNames.{FilterReports, FilterAllocates, SiftsNext, Counted}
use Rattle.cap_run.specs.FilterSteps.{SiftsOne}
use Rattle.cap_run.proofs.Sifting.{sift_stopped}
use Rattle.cap_run.proofs.Streams.{reads_named}
use Rattle.cap_run.proofs.engines.filter.sift_next.Goals as goal

pub returns-in-Ok-clause-some : goal.returns-in-Ok-clause-some
returns-in-Ok-clause-some g c = λ counted e.
    let v = c.args.filter.now in
    let r = c.in-Ok-true.ensures.read.message (cc) in
    let same : c.in-Ok.counted ≡ counted = cc in
    subst (λ (k : Counted). SiftsNext g.S.WordSource g.O.ByteOut g.E.ByteOut v.form.pack
    (FilterReports v) (FilterAllocates v) (limit_of c.args.settings.now.size) c.args.number
    c.args.source.now c.read_into.new.source c.args.out.now c.sift.new.out c.args.log.now c.sift.new.log
    c.args.buffers.now.state.failed c.sift.new.state.failed c.args.buffers.now.state.waits c.sift.new.state.waits
    (Ok k)) same (
      _,
      reads_named g.S.WordSource (limit_of c.args.settings.now.size) c.args.source.now c.read_into.new.source _ r c.in-Ok-true.ensures.read.next.works,
      rw c.view-message.ensures at c.in-Ok.ensures,
    )

pub returns-in-Err-sift-clause-err : goal.returns-in-Err-sift-clause-err
returns-in-Err-sift-clause-err g c =
    let v = c.args.filter.now in
    let r = c.in-Ok-true.ensures.read.message (cc) in
    sift_stopped g.S.WordSource g.O.ByteOut g.E.ByteOut v.form.pack
    (FilterReports v) (FilterAllocates v) (limit_of c.args.settings.now.size) c.args.number
    c.args.source.now c.read_into.new.source c.args.out.now c.sift.new.out c.args.log.now c.sift.new.log
    c.args.buffers.now.state.failed c.sift.new.state.failed c.args.buffers.now.state.waits c.sift.new.state.waits
    c.in-Err-sift.cause (
      _,
      reads_named g.S.WordSource (limit_of c.args.settings.now.size) c.args.source.now c.read_into.new.source
          _ r c.in-Ok-true.ensures.read.next.works,
      subst (λ (m : List (List ℕ)). SiftsOne g.O.ByteOut g.E.ByteOut v c.args.number m c.args.out.now c.sift.new.out
          c.args.log.now c.sift.new.log c.args.buffers.now.state c.sift.new.state
          (Err c.in-Err-sift.cause)) c.view-message.ensures c.in-Err-sift.ensures,
    )
