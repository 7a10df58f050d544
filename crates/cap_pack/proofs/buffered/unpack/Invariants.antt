use Rattle.std.proofs.Common.{length, ◌-◌}
use Rattle.cap_pack.specs.Buffered.{UnpacksInto}
use Rattle.cap_pack.proofs.buffered.unpack.Given as goal

abbrev pub invariant-loop-done : goal.invariant-loop-done
invariant-loop-done l = UnpacksInto l.zeros l.plain l.from l.out l.done

abbrev pub decreases-loop-done : goal.decreases-loop-done
decreases-loop-done l = length l.from - l.done.read
