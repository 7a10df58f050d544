use Rattle.std.proofs.Common.{length, take, ◌-◌, ◌≤◌, ◌≡◌, ◌++◌}
use Rattle.cap_cmd.specs.Files.{json_bytes}
use Rattle.cap_cmd.proofs.files.push_json_bytes.Given as goal

abbrev pub invariant-loop-count : goal.invariant-loop-count
invariant-loop-count l = record {
  within : l.count ≤ length l.bytes;
  made : l.text.items ≡ l.initial.text.items ++ json_bytes (take l.count l.bytes);
}

abbrev pub decreases-loop-count : goal.decreases-loop-count
decreases-loop-count l = length l.bytes - l.count
