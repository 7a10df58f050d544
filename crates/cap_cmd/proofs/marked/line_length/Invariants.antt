use Rattle.std.proofs.Common.{length, take, ◌-◌, ◌≤◌}
use Rattle.cap_cmd.specs.Marking.{IsPiece}
use Rattle.cap_cmd.proofs.marked.line_length.Given as goal

abbrev pub invariant-loop-count : goal.invariant-loop-count
invariant-loop-count l = record {
  within : l.count ≤ length l.bytes;
  piece : IsPiece (take l.count l.bytes);
}

abbrev pub decreases-loop-count : goal.decreases-loop-count
decreases-loop-count l = length l.bytes - l.count
