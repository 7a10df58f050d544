use Rattle.cap_spec.proofs.ProofNames.{arith, le-leb, leb, subst, zero_bytes, ◌≤◌}
use Rattle.cap_pack.proofs.WordTags.{is_of_eight, of_eight, run_by}
use Rattle.cap_pack.proofs.lanes.scalars.fulls_of_eights.Goals as goal

pub loop-i-preserved : goal.loop-i-preserved
loop-i-preserved c =
    let all = c.second_gaps.ensures c.if-second_gaps-eq0.true in
    let ws = c.args.words.now in
    let i = c.loop-i.i in
    run_by (λ x. leb (zero_bytes x) 1) 8 i ws (omega arith)
    (λ k l. le-leb _ 1 (subst (λ w. zero_bytes w ≤ 1) (of_eight ws i k l (omega arith)) (all k (is_of_eight ws i k l (omega arith))))) c.loop-i.invariant
