-- Each piece reads on after those before it.
use Rattle.cap_spec.proofs.ProofNames.{rules}
use Rattle.std.proofs.Common.{arith, ◌%◌, ◌+◌, ◌≡◌}
use Rattle.cap_frame.proofs.InOneBuffer.{bytes_more, bytes_stop}
use Rattle.cap_frame.proofs.Taking.{reads_both}
use Rattle.cap_frame.proofs.byte_reader.read_bytes.Goals as goal

pub pieces-preserved : goal.pieces-preserved
pieces-preserved g c =
    let piece = c.in-Ok.ensures.ok in
    let run = c.append_run-run.ensures in
    let so_far = c.pieces.invariant.0 in
    let whole : c.max-end.result % 8 ≡ 0 = omega (arith, so_far.whole, c.max-end.ensures, c.min.ensures, c.min-held.ensures, c.piece_after.ensures.0) in
    let read = bytes_more g.S.WordSource c.args.source.now c.pieces.source c.read_piece.new.source c.pieces.done c.max-end.result c.pieces.bytes.items
    c.read_piece.new.bytes.items piece.0 whole (omega (arith, c.in-Ok.ensures.within))
    piece.1 so_far piece.3 c.read_piece.ensures.reads c.in-Ok.ensures.works in (
      bytes_more g.S.WordSource c.args.source.now c.read_piece.new.source c.append_run-run.new.source c.max-end.result
          (c.max-end.result + c.append_run-run.result) c.read_piece.new.bytes.items c.append_run-run.new.bytes.items run.ok.0
          (omega (arith, whole, run.whole)) (omega (arith, run.long)) run.ok.1 read run.ok.3 run.reads run.works,
      omega (arith, run.within),
      omega (arith, c.pieces.invariant.2, c.read_piece.ensures.capacity, run.capacity),
    )

pub returns-in-Err-clause-reads : goal.returns-in-Err-clause-reads
returns-in-Err-clause-reads g c = search (rules, reads_both)

pub returns-in-Err-clause-err : goal.returns-in-Err-clause-err
returns-in-Err-clause-err g c = search (rules, bytes_stop)
