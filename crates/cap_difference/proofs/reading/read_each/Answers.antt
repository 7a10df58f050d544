use Rattle.cap_spec.proofs.ProofNames.{below_more, rules, ℕ, ◌+◌, HasWord, IsWord}
use Rattle.cap_difference.proofs.reading.read_each.Goals as goal

pub words-preserved : goal.words-preserved
words-preserved g c =
    below_more (λ (k : ℕ). (x : ℕ) × HasWord (g.M.Segments.segments c.args.message.now) c.args.segment (c.args.start + k) x
    × IsWord x) c.words.k c.words.invariant (c.word-word.result, c.word-word.ensures, search rules)
