use Rattle.std.proofs.Common.{length, take, ℕ, ◌%◌, ◌-◌, ◌<◌, ◌≡◌, ◌≤◌}
use Rattle.cap_frame.specs.Limit.{limit_of}
use Rattle.cap_calls.specs.CallNames.{WritesWords, IsOpen}
use Rattle.cap_calls.proofs.calls.unpack_message.fill.Given as goal

-- the words so far, before each of which the message was open
abbrev pub invariant-stages : goal.invariant-stages
invariant-stages l = record {
  gives : WritesWords l.fn.state.written l.fn.state.zero_words l.fn.state.literal_words l.bytes l.fn.out l.out l.done;
  before : (n : ℕ) → l.fn.state.written ≤ n → n < l.done.written → n % 8 ≡ 0
      → (needed : ℕ) × IsOpen (limit_of l.size) (take n l.out) needed;
}

abbrev pub decreases-stages : goal.decreases-stages
decreases-stages l = length l.out - l.done.written
