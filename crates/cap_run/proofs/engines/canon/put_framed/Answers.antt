use Rattle.cap_spec.proofs.ProofNames.{List, [], arith, subst, sym, ℕ, ◌∷◌, plain_words, rules}
use Rattle.cap_frame.specs.Putting.{Halts}
use Rattle.cap_frame.proofs.Putting.{halts_before, halts_of}
use Rattle.cap_run.proofs.Handing.{fills_of, frame_of_bytes}
use Rattle.cap_run.proofs.Making.{halts_after}
use Rattle.cap_run.proofs.Transcoding.{fills_both}
use Rattle.cap_run.proofs.engines.canon.put_framed.Goals as goal

pub returns-in-Err-clause-err : goal.returns-in-Err-clause-err
returns-in-Err-clause-err g c =
    let whole = frame_of_bytes c.args.copy.now c.table_of_one.result (omega (arith, c.table_of_one.ensures)) in
    subst (λ (ws : List ℕ). Halts g.K.WordSink c.args.sink.now c.put.new.self ws c.in-Err.fault) (sym whole)
    (halts_before g.K.WordSink c.args.sink.now c.put.new.self _ (plain_words c.args.copy.now) c.in-Err.fault
    (halts_of g.K.WordSink c.args.sink.now c.put.new.self (c.table_of_one.result ∷ []) c.put.result
    c.in-Err.fault c.in-Err.is c.in-Err.ensures.err c.put.ensures.device c.put.ensures.memory
    c.put.ensures.was_broken))

pub returns-in-Err-put_bytes-clause-err : goal.returns-in-Err-put_bytes-clause-err
returns-in-Err-put_bytes-clause-err g c =
    let ws = plain_words c.args.copy.now in
    let whole = frame_of_bytes c.args.copy.now c.table_of_one.result (omega (arith, c.table_of_one.ensures)) in
    let first = fills_of g.K.WordSink c.args.sink.now c.put.new.self (c.table_of_one.result ∷ []) c.in_default.ensures.put c.in_default.ensures.ok in
    let halts = halts_of g.K.WordSink c.put.new.self c.put_bytes.new.self ws c.put_bytes.result c.in-Err-put_bytes.fault
    c.in-Err-put_bytes.is c.in-Err-put_bytes.ensures.err c.put_bytes.ensures.device c.put_bytes.ensures.memory
    c.put_bytes.ensures.was_broken in
    subst (λ (xs : List ℕ). Halts g.K.WordSink c.args.sink.now c.put_bytes.new.self xs c.in-Err-put_bytes.fault) (sym whole)
    (halts_after g.K.WordSink c.args.sink.now c.put.new.self c.put_bytes.new.self _ ws c.in-Err-put_bytes.fault first halts)

pub returns-clause-ok : goal.returns-clause-ok
returns-clause-ok g c = search (rules, frame_of_bytes, fills_of, fills_both)
