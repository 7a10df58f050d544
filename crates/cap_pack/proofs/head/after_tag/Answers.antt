-- The bytes of the head are in front.
use Rattle.std.proofs.Common.{ap, arith, drop, length, length-drop, length-take-le, take, take-take, take_at, ℕ, ◌+◌}
use Rattle.std.proofs.Common.{◌-◌, ◌∙◌, ◌≡◌}
use Rattle.cap_pack.proofs.head.after_tag.Goals as goal

pub returns-then-bytes-gt9 : goal.returns-then-bytes-gt9
returns-then-bytes-gt9 c = ap (take c.args.len) c.copy_from_slice.ensures.after ∙ take-take c.args.len 9 (drop 1 c.args.bytes.now) c.requires.0

pub returns : goal.returns
returns c =
    let given = c.copy_from_slice-2.new.self in
    let count : 1 + c.args.len - 1 ≡ c.args.len = omega arith in
    let copied : given ≡ take c.args.len (drop 1 c.args.bytes.now) =
    c.copy_from_slice-2.ensures.after ∙ ap (λ (k : ℕ). take k (drop 1 c.args.bytes.now)) count in
    let long : length given ≡ c.args.len =
    ap length copied ∙ length-take-le c.args.len (drop 1 c.args.bytes.now) (omega (arith, length-drop 1 c.args.bytes.now, c.requires)) in
    take_at given _ c.args.len long ∙ copied
