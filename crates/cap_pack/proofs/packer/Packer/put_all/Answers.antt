use Rattle.std.proofs.Common.{ap, arith, drop, refl, sym, ◌||◌, ◌∙◌}
use Rattle.cap_pack.proofs.GroupsEncoded.{piece_split}
use Rattle.cap_pack.proofs.PuttingEach.{put_more, put_stops}
use Rattle.cap_pack.proofs.packer.Packer.put_all.Goals as goal

pub returns-in-Err-clause-err : goal.returns-in-Err-clause-err
returns-in-Err-clause-err g c = (
  refl,
  put_stops c.args.self.now c.loop-done.self c.put_piece.new.self _ _ (drop c.min-end.result c.args.words.now) _
      (piece_split c.args.words.now c.loop-done.done c.min-end.result (omega (arith, c.min-end.ensures))) c.loop-done.invariant.put c.in-Err.ensures.err,
)

pub loop-done-preserved : goal.loop-done-preserved
loop-done-preserved g c =
    let is_open = c.loop-done.invariant.put.is_open in
    record {
      within = omega (arith, c.min-end.ensures);
      put =
          put_more c.args.self.now c.loop-done.self c.put_piece.new.self _ _ (drop c.min-end.result c.args.words.now) _
          (piece_split c.args.words.now c.loop-done.done c.min-end.result (omega (arith, c.min-end.ensures))) c.loop-done.invariant.put
          c.in_default.ensures.ok (
            is_open,
            c.put_piece.ensures.closed ∙ is_open,
            ap (λ t. t || g.O.ByteOut.broken c.put_piece.new.self.output) c.put_piece.ensures.closed
                ∙ ap (λ t. c.loop-done.self.closed || t) c.in_default.ensures.works.0,
            c.in_default.ensures.works.1,
          );
      idle = λ h. c.in_default.ensures.idle h ∙ c.loop-done.invariant.idle (sym c.in_default.ensures.works.0 ∙ h);
    }
