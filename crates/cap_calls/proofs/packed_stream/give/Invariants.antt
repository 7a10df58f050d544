use Rattle.std.proofs.Common.{length, ◌-◌}
use Rattle.cap_calls.specs.PackedStreams.{WritesWords}
use Rattle.cap_calls.proofs.packed_stream.give.Given as goal

-- the words so far
abbrev pub invariant-words : goal.invariant-words
invariant-words l = WritesWords 0 l.zeros l.literal l.bytes l.fn.out l.out l.done

abbrev pub decreases-words : goal.decreases-words
decreases-words l = length l.out - l.done.written
