-- The slice has as many words as the segment.
use Rattle.std.proofs.Common.{[], arith, get_or, length, rules, sym, ◌/◌, ◌<◌, ◌^◌}
use Rattle.cap_calls.proofs.SliceSegments.{count_is, no_slice, slice_size}
use Rattle.cap_calls.proofs.slices.SliceMessageSegments.len.Goals as goal

pub overflow_cast-result-2 : goal.overflow_cast-result-2
overflow_cast-result-2 c =
    let slices = c.args.self.now.slices.now in
    let exists : c.args.s < length slices = omega (arith, c.requires, count_is slices) in
    let short = c.args.self.now.is_message.lengths c.args.s [] c.requires in
    let fits : length (get_or slices c.args.s no_slice).now / 8 < 2 ^ 32 = omega (arith, short, slice_size slices c.args.s exists) in
    search rules

pub returns : goal.returns
returns c =
    let slices = c.args.self.now.slices.now in
    let exists : c.args.s < length slices = omega (arith, c.requires, count_is slices) in
    sym (slice_size slices c.args.s exists)
