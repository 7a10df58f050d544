use Rattle.cap_spec.proofs.ProofNames.{[], subst, sym, ◌∷◌, frame_text}
use Rattle.cap_frame.specs.FrameNames.{limit_of, Halts}
use Rattle.cap_run.proofs.Making.{next_stops}
use Rattle.cap_run.proofs.Streams.{reads_named}
use Rattle.cap_run.proofs.engines.canon.put_next.Goals as goal

pub returns-in-Ok-clause-some : goal.returns-in-Ok-clause-some
returns-in-Ok-clause-some g c = λ _.
    let r = c.in-Ok-true.ensures.read.message (cc) in
    let put = rw c.view-view.ensures at c.in_default.ensures.ok in (
      record { message = _; copy = put.0 },
      reads_named g.S.WordSource (limit_of c.args.settings.now.size) c.args.source.now c.read_into.new.source _ r c.in-Ok-true.ensures.read.next.works,
      put.1,
      c.in-Ok.ensures.ok c.args.sink.now (frame_text (put.0 ∷ [])) put.2,
    )

pub returns-in-Err-flush_sink-clause-err : goal.returns-in-Err-flush_sink-clause-err
returns-in-Err-flush_sink-clause-err g c =
    let r = c.in-Ok-true.ensures.read.message (cc) in
    let put = rw c.view-view.ensures at c.in_default.ensures.ok in (
      _,
      reads_named g.S.WordSource (limit_of c.args.settings.now.size) c.args.source.now c.read_into.new.source _ r c.in-Ok-true.ensures.read.next.works,
      (
        put.0,
        put.1,
        subst (λ fault. Halts g.K.WordSink c.args.sink.now c.flush_sink.new.sink (frame_text (put.0 ∷ [])) fault) (sym c.output_fault.ensures)
            (c.in-Err-flush_sink.ensures.err c.args.sink.now (frame_text (put.0 ∷ [])) put.2),
      ),
    )

pub returns-in-Err-put_copy-clause-err : goal.returns-in-Err-put_copy-clause-err
returns-in-Err-put_copy-clause-err g c =
    let r = c.in-Ok-true.ensures.read.message (cc) in
    next_stops g.K.WordSink _ _ _ c.args.sink.now c.put_copy.new.sink c.in-Err-put_copy.cause
    (reads_named g.S.WordSource (limit_of c.args.settings.now.size) c.args.source.now c.read_into.new.source _ r c.in-Ok-true.ensures.read.next.works)
    (rw c.view-view.ensures at c.in-Err-put_copy.ensures.err)

pub returns-in-Err-put_copy-clause-some : goal.returns-in-Err-put_copy-clause-some
returns-in-Err-put_copy-clause-some g c = λ e. absurd (cc)
