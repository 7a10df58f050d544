use Rattle.cap_spec.proofs.ProofNames.{arith, below_more, ℕ, ◌+◌, HasWord}
use Rattle.cap_walk.proofs.null_words.nulls_by_word.Goals as goal

pub nulls-preserved : goal.nulls-preserved
nulls-preserved g c = record {
  few = omega (arith, c.nulls-test.true);
  null = below_more (λ (k : ℕ). HasWord (g.M.Segments.segments c.args.message.now) c.args.segment (c.args.at + k) 0) c.nulls.passed
      c.nulls.invariant.null (rw c.if-word-eq0.true at c.word.ensures);
}
