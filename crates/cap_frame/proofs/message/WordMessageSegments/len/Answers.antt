-- A message's segments are short enough for the length of each to be a `u32`.
use Rattle.std.proofs.Common.{rules}
use Rattle.cap_frame.proofs.Held.{held_fits}
use Rattle.cap_frame.proofs.message.WordMessageSegments.len.Goals as goal

pub overflow_cast-result : goal.overflow_cast-result
overflow_cast-result c = search (rules, held_fits (λ v. v.items) c.args.self.now.segments.items c.args.s c.index.result.now c.args.self.now.is_message c.requires c.index.ensures)
