-- The segment has a word for each eight bytes.
use Rattle.std.proofs.Common.{[], arith, length, rules, sym, ◌/◌, ◌<◌, ◌^◌}
use Rattle.cap_calls.proofs.OneSegments.{slice_size}
use Rattle.cap_calls.proofs.one_slice.OneSliceSegments.len.Goals as goal

pub overflow_cast-result : goal.overflow_cast-result
overflow_cast-result c =
    let bs = c.args.self.now.bytes.now in
    let short = c.args.self.now.is_message.lengths c.args._s [] c.requires in
    let fits : length bs / 8 < 2 ^ 32 = omega (arith, short, slice_size bs c.args._s c.requires) in
    search rules

pub returns : goal.returns
returns c = sym (slice_size c.args.self.now.bytes.now c.args._s c.requires)
