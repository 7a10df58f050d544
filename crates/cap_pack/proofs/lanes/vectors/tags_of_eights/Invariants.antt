use Rattle.std.proofs.Common.{length, map, take, ◌-◌, ◌≡◌, ◌≤◌}
use Rattle.cap_pack.proofs.Tags.{word_tag}
use Rattle.cap_pack.proofs.lanes.vectors.tags_of_eights.Given as goal

abbrev pub invariant-loop-i : goal.invariant-loop-i
invariant-loop-i l = record {
  len : length l.out ≡ length l.words;
  within : l.i ≤ length l.words;
  marked : take l.i l.out ≡ map word_tag (take l.i l.words);
}

abbrev pub decreases-loop-i : goal.decreases-loop-i
decreases-loop-i l = length l.words - l.i
