use Rattle.std.proofs.Common.{[], arith, length, rules, ◌<◌, ◌∷◌}
use Rattle.cap_spec.proofs.ProofNames.{length-append}
use Rattle.cap_trace.proofs.Coming.{few_passed, none_past, passed_into, passed_over}
use Rattle.cap_trace.proofs.seeking.pass.Goals as goal

pub push-requires : goal.push-requires
push-requires g c =
    let (n, h) = c.requires.come in
    let below = rw (c.in-Object-Some.field-0-is, c.level_after.ensures.value) at c.in-Object-Some.ensures in
    let passed = passed_into _ c.args.depth n _ c.in-Object-Some.branch c.args.here.now h below in
    let items = c.args.branches.now.items in
    let few : length items < 256 =
    omega (arith, c.requires.shallow, few_passed _ c.args.depth n _ passed, length-append items (c.in-Object-Some.branch ∷ [])) in
    (search rules, few)

pub go_on-requires : goal.go_on-requires
go_on-requires g c =
    let (n, h) = c.requires.come in
    let below = rw (c.in-Object-Some.field-0-is, c.level_after.ensures.value) at c.in-Object-Some.ensures in
    let passed = passed_into _ c.args.depth n _ c.in-Object-Some.branch c.args.here.now h below in
    (_, c.args.depth, n, g.met.M.Segments.is_message c.args.message.now, c.requires.shallow, rw c.push.ensures.items passed)

pub returns-in-Object-Some : goal.returns-in-Object-Some
returns-in-Object-Some g c = λ n h.
    let below = rw (c.in-Object-Some.field-0-is, c.level_after.ensures.value) at c.in-Object-Some.ensures in
    let passed = passed_into _ c.args.depth n _ c.in-Object-Some.branch c.args.here.now h below in
    c.go_on.ensures _ c.args.depth n (rw c.push.ensures.items passed)

pub go_on-requires-in-Object-None : goal.go_on-requires-in-Object-None
go_on-requires-in-Object-None g c =
    let (n, h) = c.requires.come in
    let below = rw (c.in-Object-None.field-0-is, c.level_after.ensures.value) at c.in-Object-None.ensures in
    (_, c.args.depth, n, g.met.M.Segments.is_message c.args.message.now, c.requires.shallow, passed_over _ c.args.depth n _ c.args.here.now h below)

pub returns-in-Object-None : goal.returns-in-Object-None
returns-in-Object-None g c = λ n h.
    let below = rw (c.in-Object-None.field-0-is, c.level_after.ensures.value) at c.in-Object-None.ensures in
    c.go_on-in-Object-None.ensures _ c.args.depth n (passed_over _ c.args.depth n _ c.args.here.now h below)

pub returns-in-Blocked : goal.returns-in-Blocked
returns-in-Blocked g c = λ n h more less path a.
    none_past _ c.args.depth n more _ c.args.here.now path h (rw c.level_after.ensures.value at c.in-Blocked.ensures) less a
