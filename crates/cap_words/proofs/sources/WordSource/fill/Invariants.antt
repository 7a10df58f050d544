use Rattle.std.proofs.Common.{drop, ◌-◌, ◌≡◌}
use Rattle.cap_words.proofs.Filling.{FilledSoFar}
use Rattle.cap_words.proofs.sources.WordSource.fill.Given as goal

abbrev pub invariant-loop-done : goal.invariant-loop-done
invariant-loop-done g l = record {
  filled : FilledSoFar g.Self.WordSource l.initial.self l.self l.done l.out;
  rest : drop l.whole l.out ≡ drop l.whole l.initial.out;
}

abbrev pub decreases-loop-done : goal.decreases-loop-done
decreases-loop-done g l = l.whole - l.done
