use Rattle.std.proofs.Common.{decimal, take, ◌++◌, ◌≡◌, ◌≤◌}
use Rattle.cap_path.proofs.reading.number_at.Given as goal

abbrev pub invariant-loop-end : goal.invariant-loop-end
invariant-loop-end l = (l.number ≤ l.most) × (take l.end l.text ≡ take l.from l.text ++ decimal l.number)
