use Rattle.std.proofs.Common.{arith, eq-eqb, sym, ◌==◌, ◌∙◌}
use Rattle.cap_pack.proofs.WordTags.{is_of_eight, of_eight, run_by}
use Rattle.cap_pack.proofs.lanes.scalars.zeros_of_eights.Goals as goal

pub loop-i-preserved : goal.loop-i-preserved
loop-i-preserved c =
    let all = c.all_bits.ensures c.if-all_bits-eq0.true in
    let ws = c.args.words.now in
    let i = c.loop-i.i in
    run_by (λ x. x == 0) 8 i ws (omega arith)
    (λ k l. eq-eqb _ 0 (sym (of_eight ws i k l (omega arith)) ∙ all k (is_of_eight ws i k l (omega arith)))) c.loop-i.invariant
