-- One group more is counted.
use Rattle.std.proofs.Common.{List, ap, arith, drop, length, length-drop, take, take_all, ℕ, ◌-◌, ◌∙◌, ◌≡◌}
use Rattle.cap_calls.proofs.Unpacked.{goes_on}
use Rattle.cap_calls.proofs.calls.unpack.unpacked_words.Goals as goal

pub groups-preserved : goal.groups-preserved
groups-preserved c =
    let far = c.groups.invariant in
    let group = c.in_ok-len.ensures in
    let left : List ℕ = take (length c.args.bytes.now - c.groups.at) (drop c.groups.at c.args.bytes.now) in
    let all : left ≡ drop c.groups.at c.args.bytes.now =
    take_all (length c.args.bytes.now - c.groups.at) (drop c.groups.at c.args.bytes.now)
    (omega (arith, length-drop c.groups.at c.args.bytes.now)) in
    let long : length left ≡ length c.args.bytes.now - c.groups.at = ap length all
    ∙ length-drop c.groups.at c.args.bytes.now in
    let next = goes_on c.args.bytes.now left c.groups.at c.in_ok-len.len c.in_ok-len.count c.groups.words all
    (omega (arith, long, c.groups-test.true)) group.bytes.0 group.bytes.2 group.words.0 far.counted far.ends in
    record {
      inside = omega (arith, long, c.groups-test.true, group.bytes.2);
      counted = next.0;
      ends = next.1;
      few = omega (arith, far.few, group.words.1);
    }
