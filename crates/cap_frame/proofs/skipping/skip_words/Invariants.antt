use Rattle.std.proofs.Common.{◌-◌, ◌≤◌}
use Rattle.cap_frame.proofs.Skips.{SkippedSoFar}
use Rattle.cap_frame.proofs.skipping.skip_words.Given as goal

abbrev pub invariant-words : goal.invariant-words
invariant-words g l = record {
  few : l.done ≤ l.many;
  skipped : SkippedSoFar g.S.WordSource l.initial.source l.source l.done;
}

abbrev pub decreases-words : goal.decreases-words
decreases-words g l = l.many - l.done
