use Rattle.cap_spec.proofs.ProofNames.{length, ℕ, ◌++◌, ◌≡◌, ◌≤◌, AllByRecursion, words_from, IsWord}
use Rattle.cap_canon.proofs.output.CopyOutput.append_each.Given as goal

abbrev pub invariant-words : goal.invariant-words
invariant-words g l = record {
  words : g.Self.CopyOutput.words l.self ≡ g.Self.CopyOutput.words l.initial.self ++ words_from (g.M.Segments.segments l.message) l.segment l.start l.k;
  capacity : g.Self.CopyOutput.capacity l.self ≡ g.Self.CopyOutput.capacity l.initial.self;
  borrow : g.Self.CopyOutput.borrow l.self ≡ g.Self.CopyOutput.borrow l.initial.self;
  after : (n : ℕ) → length (g.Self.CopyOutput.words l.self) ≤ n → g.Self.CopyOutput.after l.self n ≡ g.Self.CopyOutput.after l.initial.self n;
  are_words : AllByRecursion IsWord (words_from (g.M.Segments.segments l.message) l.segment l.start l.k);
}
